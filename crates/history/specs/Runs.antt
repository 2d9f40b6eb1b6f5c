-- A run: a list of calls and closings on a sheet, up to the first closing that is accepted.
use Rattle.std.specs.Prelude.{ℕ, Bool, true, false, List, [], ◌∷◌, Some, None, Option}
use Rattle.packages.specs.declared.reading.Reading.{Reading}
use Rattle.sheet.specs.declared.call.Call.{Call}
use Rattle.sheet.specs.declared.call.Call.TheVariants.{Weigh, Correct, Strike, Open, Settle, Reopen}
use Rattle.sheet.specs.declared.call.Phase.{Phase}
use Rattle.sheet.specs.declared.call.Phase.TheVariants.{Unsettled, Settled}
use Rattle.sheet.specs.declared.refusal.Refusal.{Refusal}
use Rattle.sheet.specs.Calls.{step}
use Rattle.sheet.specs.Closing.{closing}
use Rattle.sheet.specs.Steps as outcome
use Rattle.sheet.specs.Terms.{Terms}
use Rattle.history.specs.declared.entry.Entry as entry

-- what happened: a call that was accepted, a settling with what it fixed, or a refusal
pub data Event : Type 0 where
  accepted : Call → Event
  settled : ℕ → ℕ → Event
  refused : entry.Entry → Refusal → Event

abbrev pub event : Call → Phase → Event
event (Weigh p g l) ph = accepted (Weigh p g l)
event (Correct p g l) ph = accepted (Correct p g l)
event (Strike p) ph = accepted (Strike p)
event (Open p tare) ph = accepted (Open p tare)
event Settle Unsettled = accepted Settle
event Settle (Settled total average) = settled total average
event Reopen ph = accepted Reopen

pub record Ran : Type 0 where
  pub events : List Event
  pub phase : Phase
  pub rows : List Reading
  pub closed : Bool

abbrev pub stopped : Phase → List Reading → Bool → Ran
stopped ph rows closed = record { events = []; phase = ph; rows = rows; closed = closed }

abbrev pub prepend : Event → Ran → Ran
prepend e r = record { events = e ∷ r.events; phase = r.phase; rows = r.rows; closed = r.closed }

abbrev pub after_call : Call → Phase → List Reading → (Phase → List Reading → Ran) → outcome.Outcome → Ran
after_call c ph rows next (outcome.taken ph₁ rows₁) = prepend (event c ph₁) (next ph₁ rows₁)
after_call c ph rows next (outcome.refused e) = prepend (refused (entry.TheVariants.Call c) e) (next ph rows)

abbrev pub after_close : Phase → List Reading → (Phase → List Reading → Ran) → Option Refusal → Ran
after_close ph rows next None = stopped ph rows true
after_close ph rows next (Some e) = prepend (refused entry.TheVariants.Close e) (next ph rows)

abbrev pub turn : Terms → Phase → List Reading → (Phase → List Reading → Ran) → entry.Entry → Ran
turn t ph rows next (entry.TheVariants.Call c) = after_call c ph rows next (step t ph rows c)
turn t ph rows next entry.TheVariants.Close = after_close ph rows next (closing t ph rows)

abbrev pub run : Terms → List entry.Entry → Phase → List Reading → Ran
run t [] ph rows = stopped ph rows false
run t (e ∷ es) ph rows = turn t ph rows (λ ph₁ rows₁. run t es ph₁ rows₁) e
