-- How the tare is settled.
use Rattle.std.specs.Prelude.{◌≡◌, ℕ, ◌^◌, ◌≤◌, None, Some, length, ◌*◌, ◌/◌, Bool, cond, not, List, [], ◌∷◌, map, take, ℤ, pos, ◌-ℤ◌, is_some, Ok, Err, fold, Option, Result, ◌==◌, nat_le, unsigned_abs}
use Rattle.std.specs.List.{list_all, sum_by}
use Rattle.std.specs.Int.{int_max, int_min}
use Rattle.std.specs.Option.{unwrap_or}
use Rattle.packages.specs.declared.reading.Reading.{Reading}
use Rattle.packages.specs.Readings.{gross_of, tare_of, held_tare, own_label}
use Rattle.rounding.specs.Nearest.{nearest}
use Rattle.sheet.specs.declared.call.Phase.{Phase}
use Rattle.sheet.specs.declared.call.Phase.TheVariants as phase
use Rattle.sheet.specs.declared.refusal.Refusal.{Refusal}
use Rattle.sheet.specs.declared.refusal.Refusal.TheVariants as why
use Rattle.sheet.specs.Steps.{Outcome, taken, refused}
use Rattle.sheet.specs.Terms.{Terms}

-- the package's own label on a random sheet, else the sheet's
abbrev pub label_of : Terms → Reading → ℕ
label_of t r = cond t.random (unwrap_or (own_label r) 0) t.label

-- the same by the sheet's label, none on a random sheet
abbrev pub label_by : Option ℕ → Reading → ℕ
label_by label r = cond (not (is_some label)) (unwrap_or (own_label r) 0) (unwrap_or label 0)

-- gross less own tare less label
abbrev pub net_error : Terms → Reading → ℤ
net_error t r = pos (gross_of r) -ℤ pos (tare_of r) -ℤ pos (label_of t r)

-- the largest less the smallest
abbrev pub range : List ℤ → ℕ
range [] = 0
range (x ∷ xs) = unsigned_abs (fold int_max x xs -ℤ fold int_min x xs)

abbrev pub is_opened : Reading → Bool
is_opened r = is_some (held_tare r)

abbrev pub all_opened : List Reading → Bool
all_opened rows = list_all is_opened rows

-- the range of the net errors by the sheet's label, and that of the tares; none of no place
abbrev pub Ranges : Option ℕ → List Reading → Option (ℕ × ℕ) → Type 0
Ranges label rows None = length rows ≡ 0
Ranges label rows (Some ranges) =
    (1 ≤ length rows) × (ranges.0 ≡ range (map (λ r. pos (gross_of r) -ℤ pos (tare_of r) -ℤ pos (label_by label r)) rows)) × (ranges.1 ≡ range (map (λ r. pos (tare_of r)) rows)) × (ranges.0 ≤ 2 ^ 34)

-- the range of the package errors of the initial tare sample, and of its tares
abbrev pub error_range : Terms → List Reading → ℕ
error_range t rows = range (map (net_error t) (take t.initial rows))

abbrev pub tare_range : Terms → List Reading → ℕ
tare_range t rows = range (map (λ r. pos (tare_of r)) (take t.initial rows))

-- how many packages are opened in all, by the ratio of the ranges in hundredths, fraction dropped
abbrev pub total_for : Terms → List Reading → ℕ
total_for t rows =
    cond (t.initial == 0) 0
    (cond (tare_range t rows == 0) t.initial (t.total (100 * error_range t rows / tare_range t rows)))

abbrev pub tare_sum : List Reading → ℕ
tare_sum rows = sum_by tare_of rows

-- to the nearest division, a half to the even one
abbrev pub average_of : ℕ → List Reading → ℕ
average_of total rows = cond (total == 0) 0 (nearest (tare_sum (take total rows)) total)

-- the phase that settling leads to, or the first question that fails
abbrev pub fixed : Terms → List Reading → ℕ → Result Phase Refusal
fixed t rows total =
    cond (nat_le total t.sample)
    (cond (all_opened (take total rows)) (Ok (phase.Settled total (average_of total rows))) (Err (why.TotalUnopened total)))
    (Err why.TotalAboveSample)

abbrev pub settling : Terms → List Reading → Result Phase Refusal
settling t rows = cond (all_opened (take t.initial rows)) (fixed t rows (total_for t rows)) (Err why.InitialUnopened)

abbrev pub settles : List Reading → Result Phase Refusal → Outcome
settles rows (Ok ph) = taken ph rows
settles rows (Err e) = refused e

abbrev pub settle : Terms → Phase → List Reading → Outcome
settle t phase.Unsettled rows = settles rows (settling t rows)
settle t (phase.Settled total average) rows = refused why.Settled

-- reopening keeps every place
abbrev pub reopen : Phase → List Reading → Outcome
reopen phase.Unsettled rows = refused why.Unsettled
reopen (phase.Settled total average) rows = taken phase.Unsettled rows
