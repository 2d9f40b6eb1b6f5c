-- The questions put to a sample.
use Rattle.std.proofs.Common.{◌≡◌, ℕ, ◌*◌, ◌<◌, ◌≤◌, Bool, true, false, cond, not, ◌||◌, eqb, ltb, List, length, get_or, ℤ, pos, nat_abs, Some, None, Option, refl, arith}
use Rattle.std.proofs.lemmas.Bool.{cond-true, cond-false, lt-ltb, le-ltb, ltb-false}
use Rattle.std.specs.List.{position_or_len}
use Rattle.std.proofs.lemmas.List.Sums.{position_or_len_is, fails_before_first}
use Rattle.decision.specs.declared.outcome.Fault.{Fault}
use Rattle.decision.specs.declared.outcome.Fault.TheVariants.{Count, Mavs}
use Rattle.decision.specs.declared.rule.Rule.{Rule}
use Rattle.decision.specs.Answer.{outside, ranged, refusal}

-- the test of `outside`
abbrev far : ℤ → Bool
far e = ltb 8000 (nat_abs e)

module _ (es : List ℤ) where
  -- the place i is the first outside
  pub outside_found : (i : ℕ) → i < length es → ((k : ℕ) → k < i → nat_abs (get_or es k (pos 0)) ≤ 8000) → 8000 < nat_abs (get_or es i (pos 0)) → outside es ≡ Some i
  outside_found i l b f =
      rw (position_or_len_is far es i (pos 0) (omega arith) (λ k h. le-ltb 8000 _ (b k h)) (λ _. lt-ltb 8000 _ f)) (cond-true _ _ _ (lt-ltb i (length es) l))

  -- none is
  pub outside_none : ((k : ℕ) → k < length es → nat_abs (get_or es k (pos 0)) ≤ 8000) → outside es ≡ None
  outside_none b =
      rw (position_or_len_is far es (length es) (pos 0) (omega arith) (λ k h. le-ltb 8000 _ (b k h)) (λ l. absurd (omega (arith, l)))) (cond-false _ _ _ (le-ltb (length es) (length es) (omega arith)))

  inside_all : outside es ≡ None → (k : ℕ) → k < length es → nat_abs (get_or es k (pos 0)) ≤ 8000
  inside_all e k l = ltb-false 8000 _ (fails_before_first far es k (pos 0) (let h : ltb (position_or_len far es) (length es) ≡ false = grind arith in omega (arith, ltb-false _ _ h)))

-- a sample that fails no question
pub record Accepted (mavs : ℕ) (rule : Rule) (es : List ℤ) : Type 0 where
  pub some : 1 ≤ length es
  pub few : length es ≤ 48
  pub beside : mavs ≡ length es
  pub inside : (k : ℕ) → k < length es → nat_abs (get_or es k (pos 0)) ≤ 8000
  pub factor : rule.factor * length es ≤ 18000
  pub average : rule.average ≡ true → 2 ≤ length es

-- what the last three questions leave
last_three : (rule : Rule) (n : ℕ) (o : Option ℕ) → ranged rule n o ≡ None → (o ≡ None) × (rule.factor * n ≤ 18000) × (rule.average ≡ true → 2 ≤ n)
last_three rule n (Some place) e = absurd cc
last_three rule n None e = (refl, grind arith, λ a. grind arith)

first_two : (n m : ℕ) (o : Option Fault) → cond (ltb n 1 || ltb 48 n) (Some Count) (cond (not (eqb m n)) (Some Mavs) o) ≡ None → (1 ≤ n) × (n ≤ 48) × (m ≡ n) × (o ≡ None)
first_two n m o e = (grind arith, grind arith, grind arith, grind arith)

pub accepted : (mavs : ℕ) (rule : Rule) (es : List ℤ) → refusal mavs rule es ≡ None → Accepted mavs rule es
accepted mavs rule es e =
    let a = first_two (length es) mavs (ranged rule (length es) (outside es)) e in
    let b = last_three rule (length es) (outside es) a.3 in
    record { some = a.0; few = a.1; beside = a.2; inside = inside_all es b.0; factor = b.1; average = b.2 }
