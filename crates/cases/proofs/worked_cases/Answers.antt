use Rattle.cases.proofs.Computed.{worked}
use Rattle.cases.proofs.worked_cases.Goals as goal

pub returns : goal.returns
returns c = worked
