-- The number of each refusal to write, and the letter of its layer.
use Rattle.std.specs.Prelude.{[]}
use Rattle.sheet.specs.Refusals.{Account}
use Rattle.writing.specs.declared.unwritten.Unwritten as unwritten

abbrev pub account : unwritten.Unwritten → Account
account unwritten.TheVariants.NotNumber = record { number = 4; letter = 84; values = [] }
account unwritten.TheVariants.FewBytes = record { number = 23; letter = 83; values = [] }
