-- The number of each fault of a line, and the letter of its layer.
use Rattle.std.specs.Prelude.{ℕ, []}
use Rattle.sheet.specs.Refusals.{Account}
use Rattle.commands.specs.declared.fault.Fault.{Fault}
use Rattle.commands.specs.declared.fault.Why.{Why}
use Rattle.commands.specs.declared.fault.Why.TheVariants.{TooLong, NotCommand, Miscounted, NotNumber, Unknown}

-- T, put to the text
abbrev reading : ℕ → Account
reading number = record { number = number; letter = 84; values = [] }

abbrev pub account : Why → Account
account TooLong = reading 1
account NotCommand = reading 2
account Miscounted = reading 3
account NotNumber = reading 4
account Unknown = reading 5

abbrev pub fault : ℕ → ℕ → Why → Fault
fault line column why = record { line = line; column = column; why = why }
