-- The rule for two sheets, from the rule for two lists of errors.
use Rattle.std.proofs.Common.{◌≡◌, ℕ, zero, suc, ◌≤◌, List, ◌∷◌, ℤ, refl, ap, ◌∙◌, subst, arith}
use Rattle.comparison.proofs.Statements.{rule_for_two}
use Rattle.decision.specs.declared.rule.Rule.{Rule}
use Rattle.decision.specs.Answer.{Decided}
use Rattle.sheet.specs.declared.record.Record.{Record}
use Rattle.sheet.specs.Terms.{Terms}
use Rattle.history.specs.Memory.{each, label_at, errors_of, mavs_of}
use Rattle.history.specs.Rule.{TwoSheets, Shared, new_run}
use Rattle.history.specs.Runs.{Event}
use Rattle.history.proofs.Errors.{remembers}

each_same : {A : Type 0} (n : ℕ) (f g : ℕ → A) → ((p : ℕ) → 1 ≤ p → p ≤ n → f p ≡ g p) → each n f ≡ each n g
each_same zero f g h = refl
each_same (suc n) f g h = ap (λ x. x ∷ each n (λ k. f (suc k))) (h 1 (omega arith) (omega arith)) ∙ ap (λ xs. g 1 ∷ xs) (each_same n (λ k. f (suc k)) (λ k. g (suc k)) (λ p lo hi. h (suc p) (omega arith) (omega arith)))

module _ (t u : Terms) (first second : List Event) (s : Shared t u first second) where
  mavs_same : mavs_of u second ≡ mavs_of t first
  mavs_same =
      ap (λ (n : ℕ). each n (λ p. u.mav (label_at u second p))) s.sample
      ∙ each_same t.sample (λ p. u.mav (label_at u second p)) (λ p. t.mav (label_at t first p)) (λ p lo hi. ap u.mav (s.labels p lo hi) ∙ s.mavs p lo hi)

  -- the second record by the first sheet's rule, division and MAVs
  alike : (es : List ℤ) (b : Record) → Decided u.division (mavs_of u second) u.rule es b.decision → Decided t.division (mavs_of t first) t.rule es b.decision
  alike es b d =
      subst (λ (x : ℕ). Decided x (mavs_of t first) t.rule es b.decision) s.division
      (subst (λ (x : List (ℕ × ℕ)). Decided u.division x t.rule es b.decision) mavs_same
      (subst (λ (x : Rule). Decided u.division (mavs_of u second) x es b.decision) s.rule d))

pub two_sheets : TwoSheets
two_sheets t u entries others rows rows' a b long long' c c' s n =
    let first = (new_run t entries rows).events in
    let second = (new_run u others rows').events in
    let x = (remembers t entries rows a long c).1 in
    let y = alike t u first second s (errors_of u second) b (remembers u others rows' b long' c').1 in
    let r = rule_for_two (errors_of t first) (errors_of u second) t.division (mavs_of t first) t.rule a.decision b.decision x y in
    record { counted = r.counted n; order = r.order n; average = r.average n }
