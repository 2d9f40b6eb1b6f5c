use Rattle.history.proofs.Sheets.{two_sheets}
use Rattle.history.proofs.laws.two_sheets.Goals as goal

pub returns : goal.returns
returns c = two_sheets
