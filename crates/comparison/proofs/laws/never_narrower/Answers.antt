use Rattle.comparison.proofs.Wider.{wider}
use Rattle.comparison.proofs.laws.never_narrower.Goals as goal

pub returns : goal.returns
returns c = wider
