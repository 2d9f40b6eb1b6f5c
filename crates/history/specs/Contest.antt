-- Two new sheets, each started and run, and what the rule for two sheets says of their records.
use Rattle.std.specs.Prelude.{◌≡◌, ℕ, ◌≤◌, Bool, false, List, length, Ok, Err, Option, Result}
use Rattle.categories.specs.declared.plan.Plan.{Plan}
use Rattle.categories.specs.Meaning.{Sampling}
use Rattle.comparison.specs.Rises.{NoneLower}
use Rattle.kinds.specs.Meaning.{Meaning}
use Rattle.lots.specs.declared.lot.Lot.{Lot}
use Rattle.lots.specs.Lots.{planned}
use Rattle.packages.specs.declared.reading.Reading.{Reading}
use Rattle.sheet.specs.declared.record.Record.{Record}
use Rattle.sheet.specs.declared.refusal.Refusal.{Refusal}
use Rattle.sheet.specs.Starts.{starting}
use Rattle.sheet.specs.Terms.{Terms, terms}
use Rattle.history.specs.declared.entry.Entry.{Entry}
use Rattle.history.specs.declared.ending.Ending.{Ending}
use Rattle.history.specs.declared.ending.Ending.TheVariants.{Refused, Open, Closed}
use Rattle.history.specs.Memory.{label_at, errors_of}
use Rattle.history.specs.Rule.{new_run, ClosedBy, FollowsFor}
use Rattle.history.specs.Runs.{Event, Ran}

abbrev pub Category : Type 0
Category = ℕ → List ℕ → ℕ → Option Sampling

-- what a sheet is started from, by its meaning, and how it is run
pub record Setup : Type 0 where
  pub category : Category
  pub kind : Meaning
  pub labeled : Bool
  pub lot : Lot
  pub entries : List Entry
  pub rows : List Reading

abbrev pub terms_for : Setup → Plan → Terms
terms_for s plan = terms s.category s.kind s.labeled s.lot plan

abbrev pub ran : Setup → Plan → Ran
ran s plan = new_run (terms_for s plan) s.entries s.rows

-- the plan by which the sheet starts, or why it does not
abbrev pub start : Setup → Result Plan Refusal
start s = starting (planned s.category s.kind s.lot) (length s.rows)

-- a run that has ended, and the list that it left: a refused start, a record, or a sheet that is still open
abbrev pub Ends : {C K : Type 0} → Setup → Result Plan Refusal → Ending C K → List Reading → Type 0
Ends s (Err e) (Refused why) rows = (why ≡ e) × (rows ≡ s.rows)
Ends s (Err e) (Open sheet) rows = ⊥
Ends s (Err e) (Closed rec) rows = ⊥
Ends s (Ok plan) (Refused why) rows = ⊥
Ends s (Ok plan) (Open sheet) rows =
    ((ran s plan).closed ≡ false) × (sheet.lot ≡ s.lot) × (sheet.plan ≡ plan) × (sheet.phase ≡ (ran s plan).phase) × (rows ≡ (ran s plan).rows)
Ends s (Ok plan) (Closed rec) rows = ClosedBy (terms_for s plan) (ran s plan) rec × (rows ≡ (ran s plan).rows)

-- the sheets share category, kind, lot size, division and labels
pub record Shares (s r : Setup) (first second : List Event) (t u : Terms) : Type 0 where
  pub category : r.category ≡ s.category
  pub kind : r.kind ≡ s.kind
  pub size : r.lot.size ≡ s.lot.size
  pub division : r.lot.division ≡ s.lot.division
  -- the sheets' label, or none on either
  pub label : r.lot.label ≡ s.lot.label
  -- the packages' labels
  pub labels : (p : ℕ) → 1 ≤ p → p ≤ t.sample → label_at u second p ≡ label_at t first p

-- the rule: where both were started and closed, share all that, and no error is lower in the second
abbrev pub RuleOf : Setup → Setup → Record → Record → Type 0
RuleOf s r a b =
    (plan plan' : Plan) → start s ≡ Ok plan → start r ≡ Ok plan' →
    Shares s r (ran s plan).events (ran r plan').events (terms_for s plan) (terms_for r plan') →
    NoneLower (errors_of (terms_for s plan) (ran s plan).events) (errors_of (terms_for r plan') (ran r plan').events) →
    FollowsFor (terms_for s plan) (terms_for r plan') (ran s plan).events (ran r plan').events a b

abbrev pub Ruled : {C K D L : Type 0} → Setup → Setup → Ending C K → Ending D L → Type 0
Ruled s r (Closed a) (Closed b) = RuleOf s r a b
Ruled s r (Closed a) (Open sheet) = Unit {0}
Ruled s r (Closed a) (Refused why) = Unit {0}
Ruled s r (Open sheet) other = Unit {0}
Ruled s r (Refused why) other = Unit {0}
