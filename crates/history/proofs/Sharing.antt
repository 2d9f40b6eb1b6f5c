-- Two sheets that share category, kind, lot size, division and labels have one plan and one rule.
use Rattle.std.proofs.Common.{◌≡◌, ℕ, ◌*◌, ◌≤◌, Bool, true, false, cond, ltb, List, length, Ok, Err, Option, Result, sym, refl, ap, ◌∙◌, subst}
use Rattle.std.proofs.lemmas.Bool.{ltb-false}
use Rattle.categories.specs.declared.plan.Plan.{Plan}
use Rattle.comparison.specs.Rises.{NoneLower}
use Rattle.kinds.specs.Meaning.{Meaning}
use Rattle.lots.specs.declared.lot.LotFault.{LotFault}
use Rattle.lots.specs.Lots.{in_range, suits, units, taken, planned}
use Rattle.sheet.specs.declared.record.Record.{Record}
use Rattle.sheet.specs.declared.refusal.Refusal.{Refusal}
use Rattle.sheet.specs.declared.refusal.Refusal.TheVariants as why
use Rattle.sheet.specs.Starts.{starting}
use Rattle.sheet.proofs.Taken.{by_range}
use Rattle.history.specs.Contest.{Category, Setup, terms_for, ran, start, Shares}
use Rattle.history.specs.Memory.{label_at, errors_of}
use Rattle.history.specs.Rule.{ClosedBy, Shared, FollowsFor}
use Rattle.history.specs.Runs.{Event}
use Rattle.history.proofs.Sheets.{two_sheets}

-- what a start has asked
start_test : (b : Bool) (places : ℕ) (p plan : Plan) → ltb places p.sample ≡ b → ◌≡◌ {A = Result Plan Refusal} (cond b (Err why.FewPlaces) (Ok p)) (Ok plan) → (p ≡ plan) × (plan.sample ≤ places)
start_test true places p plan t q = cc
start_test false places p plan t q = let same : p ≡ plan = cc in (same, subst (λ (x : Plan). x.sample ≤ places) same (ltb-false places p.sample t))

start_by : (x : Result Plan LotFault) (places : ℕ) (plan : Plan) → starting x places ≡ Ok plan → (x ≡ Ok plan) × (plan.sample ≤ places)
start_by (Ok p) places plan e = let h = start_test (ltb places p.sample) places p plan refl e in (ap Ok h.0, h.1)
start_by (Err fault) places plan e = cc

module _ (s : Setup) (plan : Plan) (e : start s ≡ Ok plan) where
  pub start_plan : planned s.category s.kind s.lot ≡ Ok plan
  start_plan = (start_by (planned s.category s.kind s.lot) (length s.rows) plan e).0

  pub start_long : plan.sample ≤ length s.rows
  start_long = (start_by (planned s.category s.kind s.lot) (length s.rows) plan e).1

  pub start_taken : taken (s.category s.lot.size s.kind.word (units s.lot.label s.lot.division)) ≡ Ok plan
  start_taken = (by_range (in_range s.lot) (suits s.kind.word s.lot) _ plan start_plan).1

module _ (s r : Setup) (plan plan' : Plan) (e : start s ≡ Ok plan) (e' : start r ≡ Ok plan') (first second : List Event) (h : Shares s r first second (terms_for s plan) (terms_for r plan')) where
  abbrev asked : Category → Meaning → ℕ → ℕ → Option ℕ → Result Plan LotFault
  asked category kind size division label = taken (category size kind.word (units label division))

  same_asked : asked r.category r.kind r.lot.size r.lot.division r.lot.label ≡ asked s.category s.kind s.lot.size s.lot.division s.lot.label
  same_asked =
      ap (λ (c : Category). asked c r.kind r.lot.size r.lot.division r.lot.label) h.category
      ∙ ap (λ (k : Meaning). asked s.category k r.lot.size r.lot.division r.lot.label) h.kind
      ∙ ap (λ (n : ℕ). asked s.category s.kind n r.lot.division r.lot.label) h.size
      ∙ ap (λ (n : ℕ). asked s.category s.kind s.lot.size n r.lot.label) h.division
      ∙ ap (asked s.category s.kind s.lot.size s.lot.division) h.label

  same_plan : plan' ≡ plan
  same_plan = let q = sym (start_taken r plan' e') ∙ same_asked ∙ start_taken s plan e in cc

  pub shared : Shared (terms_for s plan) (terms_for r plan') first second
  shared = record {
    sample = ap (λ (p : Plan). p.sample) same_plan;
    rule = ap (λ (p : Plan). p.rule) same_plan;
    division = h.division;
    labels = h.labels;
    mavs = λ p lo hi. ap (λ (k : Meaning). k.mav (label_at (terms_for s plan) first p * r.lot.division)) h.kind
        ∙ ap (λ (d : ℕ). s.kind.mav (label_at (terms_for s plan) first p * d)) h.division;
  }

-- the rule for two sheets, of two that were started and closed
pub ruled : (s r : Setup) (plan plan' : Plan) → start s ≡ Ok plan → start r ≡ Ok plan' → (a b : Record) → ClosedBy (terms_for s plan) (ran s plan) a → ClosedBy (terms_for r plan') (ran r plan') b →
    Shares s r (ran s plan).events (ran r plan').events (terms_for s plan) (terms_for r plan') →
    NoneLower (errors_of (terms_for s plan) (ran s plan).events) (errors_of (terms_for r plan') (ran r plan').events) →
    FollowsFor (terms_for s plan) (terms_for r plan') (ran s plan).events (ran r plan').events a b
ruled s r plan plan' e e' a b c c' h n =
    two_sheets (terms_for s plan) (terms_for r plan') s.entries r.entries s.rows r.rows a b (start_long s plan e) (start_long r plan' e') c c'
    (shared s r plan plan' e e' (ran s plan).events (ran r plan').events h) n
