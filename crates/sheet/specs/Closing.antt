-- How a sheet closes.
use Rattle.std.specs.Prelude.{◌≡◌, ℕ, ◌*◌, ◌/◌, Bool, false, cond, List, map, length, take, ℤ, pos, ◌+ℤ◌, ◌-ℤ◌, is_some, Some, None, Ok, Err, Option, Result, nat_lt}
use Rattle.std.specs.List.{list_all}
use Rattle.decision.specs.Answer.{Decided, outside}
use Rattle.lots.specs.declared.lot.Lot.{Lot}
use Rattle.packages.specs.declared.reading.Reading.{Reading}
use Rattle.packages.specs.declared.reading.Reading.TheVariants.{Empty, Weighed, Opened}
use Rattle.packages.specs.Readings.{gross_of}
use Rattle.sheet.specs.declared.call.Phase.{Phase}
use Rattle.sheet.specs.declared.call.Phase.TheVariants as phase
use Rattle.sheet.specs.declared.record.Record.{Record}
use Rattle.sheet.specs.declared.refusal.Refusal.{Refusal}
use Rattle.sheet.specs.declared.refusal.Refusal.TheVariants as why
use Rattle.sheet.specs.declared.sheet.Sheet.{Sheet}
use Rattle.sheet.specs.Steps.{label_fits}
use Rattle.sheet.specs.Tare.{label_of, label_by}
use Rattle.sheet.specs.Terms.{Terms}

-- weighed, with the label that belongs there
abbrev pub complete : Bool → Reading → Bool
complete random Empty = false
complete random (Weighed g l) = label_fits random l
complete random (Opened g l tare) = label_fits random l

abbrev pub all_complete : Terms → List Reading → Bool
all_complete t rows = list_all (complete t.random) rows

-- a package error: gross less label less average tare, and the moisture that is allowed for, fraction dropped
abbrev pub package_error : Terms → ℕ → Reading → ℤ
package_error t average r = pos (gross_of r) -ℤ pos (label_of t r) -ℤ pos average +ℤ pos (label_of t r * t.allowance / 1000)

-- the same by the lot that the sheet was started from
abbrev pub lot_error : Lot → ℕ → Reading → ℤ
lot_error lot average r = pos (gross_of r) -ℤ pos (label_by lot.label r) -ℤ pos average +ℤ pos (label_by lot.label r * lot.allowance / 1000)

-- the errors of the sample, and the MAV of each package
abbrev pub errors : Terms → ℕ → List Reading → List ℤ
errors t average rows = map (package_error t average) (take t.sample rows)

abbrev pub package_mavs : Terms → List Reading → List (ℕ × ℕ)
package_mavs t rows = map (λ r. t.mav (label_of t r)) rows

abbrev pub mavs : Terms → List Reading → List (ℕ × ℕ)
mavs t rows = package_mavs t (take t.sample rows)

-- why closing is refused, by the questions in their order
abbrev pub closing_settled : Terms → ℕ → List Reading → Option Refusal
closing_settled t average rows =
    cond (all_complete t (take t.sample rows)) (cond (is_some (outside (errors t average rows))) (Some why.ErrorRange) None) (Some why.Unweighed)

abbrev pub closing_in : Terms → Phase → List Reading → Option Refusal
closing_in t phase.Unsettled rows = Some why.Unsettled
closing_in t (phase.Settled total average) rows = closing_settled t average rows

abbrev pub closing : Terms → Phase → List Reading → Option Refusal
closing t ph rows = cond (nat_lt (length rows) t.sample) (Some why.FewPlaces) (closing_in t ph rows)

-- a record is decided from the errors of the sample
pub record Recorded (t : Terms) (ph : Phase) (rows : List Reading) (rec : Record) : Type 0 where
  pub settled : ph ≡ phase.Settled rec.tare_total rec.average_tare
  pub rule : rec.rule ≡ t.rule
  pub decided : Decided t.division (mavs t rows) t.rule (errors t rec.average_tare rows) rec.decision

-- the record, or the first question that fails
abbrev pub Judges : Terms → Phase → List Reading → Result Record Refusal → Type 0
Judges t ph rows (Ok rec) = (closing t ph rows ≡ None) × Recorded t ph rows rec
Judges t ph rows (Err e) = closing t ph rows ≡ Some e

-- a refusal hands the sheet back as it was
abbrev pub Closes : {C K : Type 0} → Terms → Sheet C K → List Reading → Result Record (Sheet C K × Refusal) → Type 0
Closes t s rows (Ok rec) = Judges t s.phase rows (Ok rec)
Closes t s rows (Err back) = (back.0 ≡ s) × Judges t s.phase rows (Err back.1)
