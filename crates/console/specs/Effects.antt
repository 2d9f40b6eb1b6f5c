-- What a command does, by where the inspection stands.
use Rattle.std.specs.Prelude.{◌≡◌, Bool, List, length, Some, None, Ok, Err, Option, Result}
use Rattle.categories.specs.Handbook as categories
use Rattle.categories.specs.declared.handbook.HandbookCategory.{HandbookCategory}
use Rattle.categories.specs.declared.plan.Plan.{Plan}
use Rattle.commands.specs.declared.command.Command.{Command}
use Rattle.commands.specs.declared.command.Command.TheVariants.{Lot, Call, End}
use Rattle.kinds.specs.Handbook as kinds
use Rattle.kinds.specs.declared.handbook.HandbookKind.{HandbookKind}
use Rattle.lots.specs.Lots.{planned}
use Rattle.packages.specs.Readings.{emptied}
use Rattle.packages.specs.declared.reading.Reading.{Reading}
use Rattle.sheet.specs.Calls.{step}
use Rattle.sheet.specs.Closing.{closing, Recorded}
use Rattle.sheet.specs.Starts.{starting}
use Rattle.sheet.specs.Steps.{Outcome, taken, refused}
use Rattle.sheet.specs.Terms.{Terms, terms}
use Rattle.sheet.specs.declared.call.Phase.{Phase}
use Rattle.sheet.specs.declared.call.Phase.TheVariants.{Unsettled}
use Rattle.sheet.specs.declared.record.Record.{Record}
use Rattle.sheet.specs.declared.refusal.Refusal.{Refusal}
use Rattle.sheet.specs.declared.sheet.Sheet.{Sheet}
use Rattle.console.specs.declared.denial.Denial.{Denial}
use Rattle.console.specs.declared.denial.Denial.TheVariants as denial
use Rattle.console.specs.declared.session.Session.{Session}
use Rattle.console.specs.declared.session.Session.TheVariants as session

-- where an inspection stands: no sheet was started, one is open on these terms, or it was closed
pub data Standing : Type 0 where
  idle : Standing
  inspecting : Terms → Phase → Standing
  closed : Standing

-- of a handbook's category and kind, over records that do or do not keep labels
abbrev pub terms_on : Bool → Sheet HandbookCategory HandbookKind → Terms
terms_on labeled s = terms (categories.handbook s.category) (kinds.handbook s.kind) labeled s.lot s.plan

abbrev pub standing : Bool → Session → Standing
standing labeled session.Idle = idle
standing labeled (session.Open s) = inspecting (terms_on labeled s) s.phase
standing labeled session.Closed = closed

-- what a command is answered: nothing, the record of a closing, or why it is denied
abbrev pub Reply : Type 0
Reply = Result (Option Record) Denial

-- nothing is said and the inspection goes on, or the command is denied, or the sheet is closed with a report
pub data Effect : Type 0 where
  quiet : Standing → List Reading → Effect
  denied : Denial → Effect
  reported : Terms → Phase → Effect

abbrev pub after_start : (Plan → Effect) → Result Plan Refusal → Effect
after_start started (Ok plan) = started plan
after_start started (Err e) = denied (denial.Refused e)

abbrev pub begun : Bool → List Reading → Command → Effect
begun labeled rows (Lot category kind lot) =
    after_start (λ plan. quiet (inspecting (terms (categories.handbook category) (kinds.handbook kind) labeled lot plan) Unsettled) (emptied plan.sample rows))
    (starting (planned (categories.handbook category) (kinds.handbook kind) lot) (length rows))
begun labeled rows (Call c) = denied denial.NotOpen
begun labeled rows End = denied denial.NotOpen

abbrev pub after_step : Terms → Outcome → Effect
after_step t (taken ph rows) = quiet (inspecting t ph) rows
after_step t (refused e) = denied (denial.Refused e)

abbrev pub after_closing : Terms → Phase → Option Refusal → Effect
after_closing t ph None = reported t ph
after_closing t ph (Some e) = denied (denial.Refused e)

abbrev pub advanced : Terms → Phase → List Reading → Command → Effect
advanced t ph rows (Lot category kind lot) = denied denial.Started
advanced t ph rows (Call c) = after_step t (step t ph rows c)
advanced t ph rows End = after_closing t ph (closing t ph rows)

abbrev pub after_all : Command → Effect
after_all (Lot category kind lot) = denied denial.Started
after_all (Call c) = denied denial.NotOpen
after_all End = denied denial.NotOpen

abbrev pub effect : Bool → Standing → List Reading → Command → Effect
effect labeled idle rows c = begun labeled rows c
effect labeled (inspecting t ph) rows c = advanced t ph rows c
effect labeled closed rows c = after_all c

abbrev pub on_sheet : Bool → Sheet HandbookCategory HandbookKind → List Reading → Command → Effect
on_sheet labeled s rows c = advanced (terms_on labeled s) s.phase rows c

-- what a turn of the sheet comes to: the sheet and a refusal if any, or the record of a closing
abbrev pub by_refusal : Sheet HandbookCategory HandbookKind → Option Refusal → Session × Reply
by_refusal s None = (session.Open s, Ok None)
by_refusal s (Some e) = (session.Open s, Err (denial.Refused e))

abbrev pub reply_of : Result Record (Sheet HandbookCategory HandbookKind × Option Refusal) → Session × Reply
reply_of (Ok rec) = (session.Closed, Ok (Some rec))
reply_of (Err back) = by_refusal back.0 back.1

abbrev pub Reports : Terms → Phase → List Reading → Reply → Type 0
Reports t ph rows (Ok None) = ⊥
Reports t ph rows (Ok (Some rec)) = Recorded t ph rows rec
Reports t ph rows (Err d) = ⊥

-- what is replied, where the inspection then stands and what the list then holds; a denial leaves both as they were
abbrev pub Follows : Effect → Standing → List Reading → Reply → Standing → List Reading → Type 0
Follows (quiet st rows) st₀ rows₀ r st₁ rows₁ = (r ≡ Ok None) × (st₁ ≡ st) × (rows₁ ≡ rows)
Follows (denied d) st₀ rows₀ r st₁ rows₁ = (r ≡ Err d) × (st₁ ≡ st₀) × (rows₁ ≡ rows₀)
Follows (reported t ph) st₀ rows₀ r st₁ rows₁ = Reports t ph rows₀ r × (st₁ ≡ closed) × (rows₁ ≡ rows₀)
