use Rattle.comparison.proofs.Passing.{two_lists}
use Rattle.comparison.proofs.laws.two_lists.Goals as goal

pub returns : goal.returns
returns c = two_lists
