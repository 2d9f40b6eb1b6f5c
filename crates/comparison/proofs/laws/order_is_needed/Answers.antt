use Rattle.comparison.proofs.Passing.{order_needed}
use Rattle.comparison.proofs.laws.order_is_needed.Goals as goal

pub returns : goal.returns
returns c = order_needed
