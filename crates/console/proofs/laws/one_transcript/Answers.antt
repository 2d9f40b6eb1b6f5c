use Rattle.console.proofs.One.{one_transcript}
use Rattle.console.proofs.laws.one_transcript.Goals as goal

pub returns : goal.returns
returns c = one_transcript
