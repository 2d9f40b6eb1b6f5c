-- The rule for two sheets.
use Rattle.std.specs.Prelude.{◌≡◌, ℕ, ◌≤◌, true, List, length, pos, ◌≤ℤ◌}
use Rattle.comparison.specs.Rises.{NoneLower, OrderKept}
use Rattle.decision.specs.Answer.{Decided}
use Rattle.decision.specs.Verdicts.{Passes}
use Rattle.packages.specs.declared.reading.Reading.{Reading}
use Rattle.packages.specs.Readings.{emptied}
use Rattle.sheet.specs.declared.call.Phase.TheVariants.{Unsettled}
use Rattle.sheet.specs.declared.record.Record.{Record}
use Rattle.sheet.specs.Closing.{Recorded}
use Rattle.sheet.specs.Terms.{Terms}
use Rattle.history.specs.declared.entry.Entry.{Entry}
use Rattle.history.specs.Memory.{label_at, errors_of, mavs_of, last_tare}
use Rattle.history.specs.Runs.{Event, Ran, run}

-- a run from a new sheet: unsettled, over a list whose first places are emptied
abbrev pub new_run : Terms → List Entry → List Reading → Ran
new_run t entries rows = run t entries Unsettled (emptied t.sample rows)

-- a record that a closing made at the end of a run
abbrev pub ClosedBy : Terms → Ran → Record → Type 0
ClosedBy t ran rec = (ran.closed ≡ true) × Recorded t ran.phase ran.rows rec

-- it is decided from exactly the errors that the events give
abbrev pub Remembers : Type 0
Remembers =
    (t : Terms) (entries : List Entry) (rows : List Reading) (rec : Record) → t.sample ≤ length rows → ClosedBy t (new_run t entries rows) rec →
    (rec.average_tare ≡ last_tare (new_run t entries rows).events)
    × Decided t.division (mavs_of t (new_run t entries rows).events) t.rule (errors_of t (new_run t entries rows).events) rec.decision

-- two sheets share category, kind, lot size, division and labels; allowances and records may differ
pub record Shared (t u : Terms) (first second : List Event) : Type 0 where
  pub sample : u.sample ≡ t.sample
  pub rule : u.rule ≡ t.rule
  pub division : u.division ≡ t.division
  pub labels : (p : ℕ) → 1 ≤ p → p ≤ t.sample → label_at u second p ≡ label_at t first p
  pub mavs : (p : ℕ) → 1 ≤ p → p ≤ t.sample → u.mav (label_at t first p) ≡ t.mav (label_at t first p)

-- what follows for the two records
pub record FollowsFor (t u : Terms) (first second : List Event) (a b : Record) : Type 0 where
  pub counted : b.decision.counted ≤ a.decision.counted
  pub order : OrderKept (errors_of t first) (errors_of u second) → Passes a.decision.verdict → Passes b.decision.verdict
  pub average : pos 0 ≤ℤ a.decision.figures.total → Passes a.decision.verdict → Passes b.decision.verdict

abbrev pub TwoSheets : Type 0
TwoSheets =
    (t u : Terms) (entries others : List Entry) (rows rows' : List Reading) (a b : Record) → t.sample ≤ length rows → u.sample ≤ length rows' →
    ClosedBy t (new_run t entries rows) a → ClosedBy u (new_run u others rows') b →
    Shared t u (new_run t entries rows).events (new_run u others rows').events →
    NoneLower (errors_of t (new_run t entries rows).events) (errors_of u (new_run u others rows').events) →
    FollowsFor t u (new_run t entries rows).events (new_run u others rows').events a b
