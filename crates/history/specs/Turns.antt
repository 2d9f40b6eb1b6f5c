-- What one entry, and a list of them, answers and leaves.
use Rattle.std.specs.Prelude.{◌≡◌, true, false, List, is_some, Some, None, Ok, Err, Option, Result}
use Rattle.packages.specs.declared.reading.Reading.{Reading}
use Rattle.sheet.specs.declared.record.Record.{Record}
use Rattle.sheet.specs.declared.refusal.Refusal.{Refusal}
use Rattle.sheet.specs.declared.sheet.Sheet.{Sheet}
use Rattle.sheet.specs.Calls.{step}
use Rattle.sheet.specs.Closing.{closing, Recorded}
use Rattle.sheet.specs.Steps.{Outcome, taken, refused}
use Rattle.sheet.specs.Terms.{Terms}
use Rattle.sheet.specs.Views.{Kept}
use Rattle.history.specs.declared.entry.Entry.{Entry}
use Rattle.history.specs.declared.entry.Entry.TheVariants.{Call, Close}
use Rattle.history.specs.Runs.{Ran}

-- the sheet after a call, and the list
abbrev pub Moved : {C K : Type 0} → Outcome → Sheet C K → List Reading → Sheet C K → Option Refusal → List Reading → Type 0
Moved (taken ph rows) s rows₀ s₁ why rows₁ = Kept s s₁ × (s₁.phase ≡ ph) × (why ≡ None) × (rows₁ ≡ rows)
Moved (refused e) s rows₀ s₁ why rows₁ = Kept s s₁ × (s₁.phase ≡ s.phase) × (why ≡ Some e) × (rows₁ ≡ rows₀)

abbrev pub Turned : {C K : Type 0} → Terms → Sheet C K → List Reading → Entry → Result Record (Sheet C K × Option Refusal) → List Reading → Type 0
Turned t s rows (Call c) (Ok rec) rows₁ = ⊥
Turned t s rows (Call c) (Err back) rows₁ = Moved (step t s.phase rows c) s rows back.0 back.1 rows₁
Turned t s rows Close (Ok rec) rows₁ = (closing t s.phase rows ≡ None) × Recorded t s.phase rows rec × (rows₁ ≡ rows)
Turned t s rows Close (Err back) rows₁ = (back.0 ≡ s) × (closing t s.phase rows ≡ back.1) × (is_some back.1 ≡ true) × (rows₁ ≡ rows)

-- a run: the record of its closing, or the sheet as it left it
abbrev pub Runs : {C K : Type 0} → Terms → Ran → Sheet C K → Result Record (Sheet C K) → List Reading → Type 0
Runs t ran s (Ok rec) rows₁ = (ran.closed ≡ true) × Recorded t ran.phase ran.rows rec × (rows₁ ≡ ran.rows)
Runs t ran s (Err s₁) rows₁ = (ran.closed ≡ false) × Kept s s₁ × (s₁.phase ≡ ran.phase) × (rows₁ ≡ ran.rows)
