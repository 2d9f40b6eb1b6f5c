-- What starting and turning a sheet come to at the console.
use Rattle.std.proofs.Common.{◌≡◌, Bool, true, List, length, is_some, Some, None, Ok, Err, Option, Result, sym, refl, ap, subst, true≢false}
use Rattle.categories.specs.Handbook as categories
use Rattle.categories.specs.declared.handbook.HandbookCategory.{HandbookCategory}
use Rattle.categories.specs.declared.plan.Plan.{Plan}
use Rattle.kinds.specs.Handbook as kinds
use Rattle.kinds.specs.declared.handbook.HandbookKind.{HandbookKind}
use Rattle.lots.specs.declared.lot.Lot.{Lot}
use Rattle.lots.specs.Lots.{planned}
use Rattle.packages.specs.Readings.{emptied}
use Rattle.packages.specs.declared.list.PackageList.{PackageList}
use Rattle.packages.specs.declared.package.Package as pac
use Rattle.packages.specs.declared.reading.Reading.{Reading}
use Rattle.commands.specs.declared.command.Command.{Command}
use Rattle.commands.specs.declared.command.Command.TheVariants.{Lot as LotOf}
use Rattle.history.proofs.Contesting.{start_length}
use Rattle.history.specs.Turns.{Turned, Moved}
use Rattle.history.specs.declared.entry.Entry as entry
use Rattle.sheet.specs.Calls.{step}
use Rattle.sheet.specs.Closing.{closing}
use Rattle.sheet.specs.Starts.{starting, Starts}
use Rattle.sheet.specs.Steps.{Outcome, taken, refused}
use Rattle.sheet.specs.Views.{rows_of, Kept}
use Rattle.sheet.specs.declared.call.Call.{Call}
use Rattle.sheet.specs.declared.call.Phase.{Phase}
use Rattle.sheet.specs.declared.record.Record.{Record}
use Rattle.sheet.specs.Terms.{Terms, terms}
use Rattle.sheet.specs.declared.call.Phase.TheVariants.{Unsettled}
use Rattle.sheet.specs.declared.refusal.Refusal.{Refusal}
use Rattle.sheet.specs.declared.sheet.Sheet.{Sheet}
use Rattle.console.specs.declared.denial.Denial.TheVariants.{Refused}
use Rattle.console.specs.declared.session.Session.{Session}
use Rattle.console.specs.declared.session.Session.TheVariants.{Idle, Open}
use Rattle.console.specs.Effects.{idle, inspecting, closed, Reply, quiet, Effect, standing, terms_on, begun, after_start, after_step, after_closing, by_refusal, reply_of, Follows}

abbrev start_reply : Result (Sheet HandbookCategory HandbookKind) Refusal → Session × Reply
start_reply (Ok s) = (Open s, Ok None)
start_reply (Err e) = (Idle, Err (Refused e))

-- a lot command: the start is accepted, or refused, by the plan or the first question that fails
module _ {P : Type 0} (records : pac.Ghosts P) (category : HandbookCategory) (kind : HandbookKind) (lot : Lot) (list : PackageList P) (rows₁ : List Reading) where
  abbrev rows : List Reading
  rows = rows_of records list

  abbrev on_plan : Plan → Effect
  on_plan plan = quiet (inspecting (terms (categories.handbook category) (kinds.handbook kind) records.labeled lot plan) Unsettled) (emptied plan.sample rows)

  by_plan : (by : Result Plan Refusal) (r : Result (Sheet HandbookCategory HandbookKind) Refusal) → Starts category kind lot by rows r rows₁
      → Follows (after_start on_plan by) idle rows (start_reply r).1 (standing records.labeled (start_reply r).0) rows₁
  by_plan (Ok plan) (Ok s) h =
      (refl, (λ i. inspecting (terms (categories.handbook (h.0 i)) (kinds.handbook (h.1 i)) records.labeled (h.2 i) (h.3 i)) (h.4 i)), h.5)
  by_plan (Ok plan) (Err why) h = absurd h
  by_plan (Err e) (Ok s) h = absurd h
  by_plan (Err e) (Err why) h = (ap (λ e. Err (Refused e)) h.0, refl, h.1)

  pub started : (c : Command) → c ≡ LotOf category kind lot → (r : Result (Sheet HandbookCategory HandbookKind) Refusal)
      → Starts category kind lot (starting (planned (categories.handbook category) (kinds.handbook kind) lot) (length list.places.now)) rows r rows₁
      → Follows (begun records.labeled rows c) idle rows (start_reply r).1 (standing records.labeled (start_reply r).0) rows₁
  started c e r h =
      subst (λ c. Follows (begun records.labeled rows c) idle rows (start_reply r).1 (standing records.labeled (start_reply r).0) rows₁) (sym e)
      (by_plan (starting (planned (categories.handbook category) (kinds.handbook kind) lot) (length rows)) r
      (start_length records category kind lot (planned (categories.handbook category) (kinds.handbook kind) lot) list r rows rows₁ h))

same : {labeled : Bool} {s s₁ : Sheet HandbookCategory HandbookKind} {ph : Phase} → Kept s s₁ → s₁.phase ≡ ph → inspecting (terms_on labeled s₁) s₁.phase ≡ inspecting (terms_on labeled s) ph
same {labeled} k e = λ i. inspecting (terms (categories.handbook (k.category i)) (kinds.handbook (k.kind i)) labeled (k.lot i) (k.plan i)) (e i)

-- a turn of the open sheet
module _ (labeled : Bool) (s : Sheet HandbookCategory HandbookKind) (rows rows₁ : List Reading) where
  abbrev t : Terms
  t = terms_on labeled s

  moved : (o : Outcome) (s₁ : Sheet HandbookCategory HandbookKind) (why : Option Refusal) → Moved o s rows s₁ why rows₁
      → Follows (after_step t o) (inspecting t s.phase) rows (by_refusal s₁ why).1 (standing labeled (by_refusal s₁ why).0) rows₁
  moved (taken ph rows') s₁ why h =
      subst (λ why. Follows (after_step t (taken ph rows')) (inspecting t s.phase) rows (by_refusal s₁ why).1 (standing labeled (by_refusal s₁ why).0) rows₁) (sym h.2)
      (refl, same h.0 h.1, h.3)
  moved (refused e) s₁ why h =
      subst (λ why. Follows (after_step t (refused e)) (inspecting t s.phase) rows (by_refusal s₁ why).1 (standing labeled (by_refusal s₁ why).0) rows₁) (sym h.2)
      (refl, same h.0 h.1, h.3)

  pub called : (c : Call) (r : Result Record (Sheet HandbookCategory HandbookKind × Option Refusal)) → Turned t s rows (entry.TheVariants.Call c) r rows₁
      → Follows (after_step t (step t s.phase rows c)) (inspecting t s.phase) rows (reply_of r).1 (standing labeled (reply_of r).0) rows₁
  called c (Ok rec) h = absurd h
  called c (Err back) h = moved (step t s.phase rows c) back.0 back.1 h

  kept_open : (o : Option Refusal) (s₁ : Sheet HandbookCategory HandbookKind) (why : Option Refusal) → s₁ ≡ s → o ≡ why → is_some why ≡ true → rows₁ ≡ rows
      → Follows (after_closing t s.phase o) (inspecting t s.phase) rows (by_refusal s₁ why).1 (standing labeled (by_refusal s₁ why).0) rows₁
  kept_open o s₁ None e f some g = absurd (true≢false (sym some))
  kept_open o s₁ (Some why) e f some g =
      subst (λ o. Follows (after_closing t s.phase o) (inspecting t s.phase) rows (Err (Refused why)) (standing labeled (Open s₁)) rows₁) (sym f)
      (refl, (λ i. inspecting (terms_on labeled (e i)) (e i).phase), g)

  pub ended : (r : Result Record (Sheet HandbookCategory HandbookKind × Option Refusal)) → Turned t s rows entry.TheVariants.Close r rows₁
      → Follows (after_closing t s.phase (closing t s.phase rows)) (inspecting t s.phase) rows (reply_of r).1 (standing labeled (reply_of r).0) rows₁
  ended (Ok rec) h =
      subst (λ o. Follows (after_closing t s.phase o) (inspecting t s.phase) rows (Ok (Some rec)) closed rows₁) (sym h.0) (h.1, refl, h.2)
  ended (Err back) h = kept_open (closing t s.phase rows) back.0 back.1 h.0 h.1 h.2 h.3
