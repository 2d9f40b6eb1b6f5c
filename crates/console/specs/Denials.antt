-- The number of each denial, the letter of its layer and the values that it carries.
use Rattle.std.specs.Prelude.{ℕ, []}
use Rattle.sheet.specs.Refusals as refusals
use Rattle.console.specs.declared.denial.Denial.{Denial}
use Rattle.console.specs.declared.denial.Denial.TheVariants.{NotOpen, Started, Refused}

-- K, put at the console
abbrev standing : ℕ → refusals.Account
standing number = record { number = number; letter = 75; values = [] }

abbrev pub account : Denial → refusals.Account
account NotOpen = standing 6
account Started = standing 7
account (Refused refusal) = refusals.account refusal
