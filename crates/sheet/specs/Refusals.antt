-- The number of each refusal, the letter of its layer and the values that it carries.
use Rattle.std.specs.Prelude.{ℕ, List, [], ◌∷◌}
use Rattle.lots.specs.declared.lot.LotFault.{LotFault}
use Rattle.lots.specs.declared.lot.LotFault.TheVariants.{OutOfRange, NotTaken}
use Rattle.sheet.specs.declared.refusal.Refusal.{Refusal}
use Rattle.sheet.specs.declared.refusal.Refusal.TheVariants as why

pub record Account : Type 0 where
  pub number : ℕ
  -- P, put at starting, or S, put to the sheet
  pub letter : ℕ
  pub values : List ℕ

-- why a lot is not inspected
abbrev pub lot_refusal : LotFault → Refusal
lot_refusal OutOfRange = why.LotRange
lot_refusal NotTaken = why.NotTaken

abbrev starting : ℕ → Account
starting number = record { number = number; letter = 80; values = [] }

abbrev calling : ℕ → List ℕ → Account
calling number values = record { number = number; letter = 83; values = values }

abbrev pub account : Refusal → Account
account why.LotRange = starting 8
account why.NotTaken = starting 9
account why.FewPlaces = calling 10 []
account why.NoPlace = calling 11 []
account why.Unweighable = calling 12 []
account why.Frozen = calling 13 []
account why.Unfit = calling 14 []
account why.TareAboveGross = calling 15 []
account why.Settled = calling 16 []
account why.InitialUnopened = calling 17 []
account why.TotalAboveSample = calling 18 []
account (why.TotalUnopened total) = calling 19 (total ∷ [])
account why.Unsettled = calling 20 []
account why.Unweighed = calling 21 []
account why.ErrorRange = calling 22 []
