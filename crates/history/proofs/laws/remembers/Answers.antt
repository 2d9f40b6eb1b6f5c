use Rattle.history.proofs.Errors.{remembers}
use Rattle.history.proofs.laws.remembers.Goals as goal

pub returns : goal.returns
returns c = remembers
