-- A lot, and the plan by which it is inspected.
use Rattle.std.specs.Prelude.{ℕ, ◌*◌, Bool, true, if◌then◌else◌, not, ◌&&◌, ◌||◌, List, is_some, Some, None, Ok, Err, Option, Result, ◌==◌, nat_le}
use Rattle.categories.specs.declared.plan.Plan.{Plan}
use Rattle.categories.specs.Meaning.{Sampling}
use Rattle.kinds.specs.Handbook.{weight, count}
use Rattle.kinds.specs.Meaning.{Meaning}
use Rattle.lots.specs.declared.lot.Lot.{Lot}
use Rattle.lots.specs.declared.lot.LotFault.{LotFault}
use Rattle.lots.specs.declared.lot.LotFault.TheVariants.{OutOfRange, NotTaken}

abbrev pub label_in_range : Option ℕ → Bool
label_in_range None = true
label_in_range (Some label) = nat_le 1 label && nat_le label 999999

abbrev pub division_in_range : ℕ → Bool
division_in_range division = nat_le 1 division && nat_le division 100000

abbrev pub in_range : Lot → Bool
in_range lot =
    nat_le 1 lot.size && (nat_le lot.size 1000000 && (nat_le 1 lot.division && (nat_le lot.division 100000 && (label_in_range lot.label && nat_le lot.allowance 100))))

-- random lots and allowances are for weights, and counts are read in single items
abbrev pub suits : List ℕ → Lot → Bool
suits name lot =
    (weight name || (is_some lot.label && lot.allowance == 0)) && (not (count name) || lot.division == 1)

-- the lot's label in base units; 0 in a random lot
abbrev pub units : Option ℕ → ℕ → ℕ
units None division = 0
units (Some label) division = label * division

abbrev pub taken : Option Sampling → Result Plan LotFault
taken None = Err NotTaken
taken (Some sampling) = Ok sampling.plan

-- the plan, by the meanings of category and kind
abbrev pub planned : (ℕ → List ℕ → ℕ → Option Sampling) → Meaning → Lot → Result Plan LotFault
planned category kind lot =
    if in_range lot then
    (if suits kind.word lot then taken (category lot.size kind.word (units lot.label lot.division)) else Err NotTaken)
    else Err OutOfRange

-- the MAV of a package by its label in divisions; none where label or division is out of range
abbrev pub package_mav : Meaning → ℕ → ℕ → Option (ℕ × ℕ)
package_mav kind division label =
    if label_in_range (Some label) && division_in_range division then Some (kind.mav (label * division)) else None
