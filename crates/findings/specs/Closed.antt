-- What is found of a closed sheet.
use Rattle.std.specs.Prelude.{◌≡◌, ℕ, ◌<◌, ◌≤◌, List, map, length, take, ℤ, None, Option, unwrap_or, MatchOption}
use Rattle.std.specs.Int.{saturate_signed, w32}
use Rattle.categories.specs.declared.handbook.HandbookCategory.{HandbookCategory}
use Rattle.history.specs.declared.ending.Ending.{Ending}
use Rattle.history.specs.declared.ending.Ending.TheVariants.{Refused, Open, Closed}
use Rattle.history.specs.declared.ending.Start.{Start}
use Rattle.kinds.specs.declared.handbook.HandbookKind.{HandbookKind}
use Rattle.kinds.specs.Handbook.{handbook}
use Rattle.lots.specs.declared.lot.Lot.{Lot}
use Rattle.lots.specs.Lots.{package_mav}
use Rattle.packages.specs.declared.package.Package as pac
use Rattle.sheet.specs.declared.record.Record.{Record}
use Rattle.sheet.specs.Closing.{lot_error}
use Rattle.sheet.specs.Tare.{label_by}
use Rattle.findings.specs.declared.closed.Findings.{Findings}

-- the label of each package
abbrev pub labels_of : {P : Type 0} → pac.Ghosts P → Lot → List P → List ℕ
labels_of records lot places = map (λ p. label_by lot.label (records.reading p)) places

-- the package errors, each the nearest of 32 bits
abbrev pub errors_of : {P : Type 0} → pac.Ghosts P → Lot → ℕ → List P → List ℤ
errors_of records lot average places = map (λ p. saturate_signed w32 (lot_error lot average (records.reading p))) places

-- the MAV of each label, 0 where it is out of range
abbrev pub mavs_of : HandbookKind → ℕ → List ℕ → List (ℕ × ℕ)
mavs_of kind division labels = map (λ label. unwrap_or (package_mav (handbook kind) division label) (0, 1)) labels

-- what a closed sheet came to, by the places of its sample
pub record IsFound {P : Type 0} (records : pac.Ghosts P) (start : Start HandbookCategory HandbookKind) (rec : Record) (sample : List P) (f : Findings) : Type 0 where
  pub started : f.start ≡ start
  pub recorded : f.record ≡ rec
  pub labels : f.labels.items ≡ labels_of records start.lot sample
  pub errors : f.errors.items ≡ errors_of records start.lot rec.average_tare sample
  pub mavs : f.mavs.items ≡ mavs_of start.kind start.lot.division f.labels.items

abbrev pub Finds : {P : Type 0} → pac.Ghosts P → Start HandbookCategory HandbookKind → Ending HandbookCategory HandbookKind → List P → Option Findings → Type 0
Finds records start (Closed rec) places found =
    MatchOption found (length places < rec.decision.figures.sample)
    (λ f. (rec.decision.figures.sample ≤ length places) × IsFound records start rec (take rec.decision.figures.sample places) f)
Finds records start (Open sheet) places found = found ≡ None
Finds records start (Refused why) places found = found ≡ None
