-- What the calls on a place do, over plain values: the phase and the readings of the list. Places count from 1.
use Rattle.std.specs.Prelude.{◌≡◌, ℕ, ◌-◌, Bool, true, false, ◌&&◌, List, Some, None, Ok, Err, Option, Result, if◌then◌else◌, nat_le, slice_index_or, slice_set}
use Rattle.packages.specs.declared.reading.Reading.{Reading}
use Rattle.packages.specs.declared.reading.Reading.TheVariants.{Empty, Weighed, Opened}
use Rattle.packages.specs.Readings.{stored}
use Rattle.sheet.specs.declared.call.Phase.{Phase}
use Rattle.sheet.specs.declared.refusal.Refusal.{Refusal}
use Rattle.sheet.specs.declared.refusal.Refusal.TheVariants as why

pub data Outcome : Type 0 where
  taken : Phase → List Reading → Outcome
  refused : Refusal → Outcome

-- what a call answers and leaves: the new state, or the refusal and all as it was
abbrev pub Follows : Outcome → Phase → List Reading → Result (Unit {0}) Refusal → Phase → List Reading → Type 0
Follows (taken ph rows) ph₀ rows₀ r ph₁ rows₁ = (r ≡ Ok tt) × (ph₁ ≡ ph) × (rows₁ ≡ rows)
Follows (refused e) ph₀ rows₀ r ph₁ rows₁ = (r ≡ Err e) × (ph₁ ≡ ph₀) × (rows₁ ≡ rows₀)

-- a label from 1 to 999999 is given exactly on a random sheet
abbrev pub label_fits : Bool → Option ℕ → Bool
label_fits true None = false
label_fits true (Some l) = nat_le 1 l && nat_le l 999999
label_fits false None = true
label_fits false (Some l) = false

-- what a call makes of the reading that its place holds, or why it does not fit
abbrev pub weighed : Reading → ℕ → Option ℕ → Result Reading Refusal
weighed Empty g l = Ok (Weighed g l)
weighed (Weighed g₀ l₀) g l = Err why.Unfit
weighed (Opened g₀ l₀ tare) g l = Err why.Unfit

-- correcting drops the tare
abbrev pub corrected : Reading → ℕ → Option ℕ → Result Reading Refusal
corrected Empty g l = Err why.Unfit
corrected (Weighed g₀ l₀) g l = Ok (Weighed g l)
corrected (Opened g₀ l₀ tare) g l = Ok (Weighed g l)

abbrev pub struck : Reading → Result Reading Refusal
struck Empty = Err why.Unfit
struck (Weighed g l) = Ok Empty
struck (Opened g l tare) = Ok Empty

abbrev pub tared : ℕ → Option ℕ → ℕ → Result Reading Refusal
tared g l tare = if nat_le tare g then Ok (Opened g l tare) else Err why.TareAboveGross

-- opening replaces an earlier tare
abbrev pub opened : Reading → ℕ → Result Reading Refusal
opened Empty tare = Err why.Unfit
opened (Weighed g l) tare = tared g l tare
opened (Opened g l tare₀) tare = tared g l tare

-- what the place holds
abbrev pub held_at : List Reading → ℕ → Reading
held_at rows p = slice_index_or rows (p - 1) Empty

-- the place is written, as its record stores the reading, unless the call is refused
abbrev pub placing : Bool → Phase → List Reading → ℕ → Result Reading Refusal → Outcome
placing labeled ph rows p (Ok r) = taken ph (slice_set rows (p - 1) (stored labeled r))
placing labeled ph rows p (Err e) = refused e

-- the same of a list alone
abbrev pub Places : Bool → List Reading → ℕ → Result Reading Refusal → Result (Unit {0}) Refusal → List Reading → Type 0
Places labeled rows p (Ok r) result rows₁ = (result ≡ Ok tt) × (rows₁ ≡ slice_set rows (p - 1) (stored labeled r))
Places labeled rows p (Err e) result rows₁ = (result ≡ Err e) × (rows₁ ≡ rows)
