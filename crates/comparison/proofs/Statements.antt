-- The premises as they are stated, and the rule for two lists at two decisions.
use Rattle.std.proofs.Common.{◌≡◌, ℕ, ◌≤◌, List, length, ℤ, pos, ◌≤ℤ◌, Some, None, Decides, Option, sym, refl, subst, arith}
use lib.Signed.{le_z}
use borrow.Author.Differences.{ints}
use Rattle.std.proofs.lemmas.Int.{by_lt_z}
use Rattle.decision.specs.declared.outcome.Decision.{Decision}
use Rattle.decision.specs.declared.outcome.Figures.{Figures}
use Rattle.decision.specs.declared.rule.Rule.{Rule}
use Rattle.decision.specs.Answer.{Decided}
use Rattle.decision.specs.Sample.{total, figures, pairs}
use Rattle.decision.specs.Verdicts.{counted, verdict, Passes, spread}
use Rattle.comparison.specs.declared.premises.Premises.{Premises}
use Rattle.comparison.specs.Compared.{Stated, RuleForTwo}
use Rattle.comparison.specs.Rises.{rise, NoneLower, OrderKept, Lower, Crossed}
use Rattle.comparison.proofs.Passing.{follows}
use Rattle.comparison.proofs.Wider.{wider}
use Rattle.decision.proofs.Spread.{spread_pairs}

module _ (es ds : List ℤ) where
  lower_iff : (o : Option ℕ) → length ds ≡ length es → Lower es ds o → (o ≡ None → NoneLower es ds) × (NoneLower es ds → o ≡ None)
  lower_iff None l h = (λ e. (l, h), λ n. refl)
  lower_iff (Some k) l h = (λ e. absurd cc, λ n. absurd (let a = n.1 k h.0 in let b = h.1 in omega (arith, ints)))

  crossed_iff : (o : Option (ℕ × ℕ)) → Crossed es ds o → (o ≡ None → OrderKept es ds) × (OrderKept es ds → o ≡ None)
  crossed_iff None h = (λ e j k jl kl lt. by_lt_z (rise es ds k) (rise es ds j) (λ m. absurd (h j jl k kl (lt, m))) (λ m. m), λ n. refl)
  crossed_iff (Some p) h = (
    λ e. absurd cc,
    λ n. absurd (let a = n p.0 p.1 h.0 h.1.0 h.1.1.0 in let b = h.1.1.1 in omega (arith, ints)),
  )

  pub stated : (p : Premises) → length ds ≡ length es → Lower es ds p.lower → Crossed es ds p.crossed → p.average ≡ le_z (pos 0) (total es) → Stated es ds p
  stated p l h k e = record {
    lower = h;
    crossed = k;
    average = subst (λ b. Decides b (pos 0 ≤ℤ total es)) (sym e) (not_below (total es));
    none_lower = lower_iff p.lower l h;
    order_kept = crossed_iff p.crossed k;
  }
    where
      not_below : (z : ℤ) → Decides (le_z (pos 0) z) (pos 0 ≤ℤ z)
      not_below z = (λ q. omega (arith, ints), λ q. sym (omega (arith, ints)))

  module _ (division : ℕ) (mavs : List (ℕ × ℕ)) (rule : Rule) (one two : Decision) (a : Decided division mavs rule es one) (b : Decided division mavs rule ds two) where
    at_both : (P : Figures → Figures → Type 0) → P (figures division mavs es) (figures division mavs ds) → P one.figures two.figures
    at_both P h = subst (λ (f : Figures). P f two.figures) (sym a.concluded.figures) (subst (P (figures division mavs es)) (sym b.concluded.figures) h)

    passing : (Passes (verdict rule (figures division mavs es)) → Passes (verdict rule (figures division mavs ds))) → Passes one.verdict → Passes two.verdict
    passing h p = subst Passes (sym b.concluded.verdict) (h (subst Passes a.concluded.verdict p))

    pub rule_for_two : RuleForTwo es ds one two
    rule_for_two = record {
      short = λ n. at_both (λ f g. g.short ≤ f.short) (follows rule division mavs es ds n).short;
      unreasonable = λ n. at_both (λ f g. g.unreasonable ≤ f.unreasonable) (follows rule division mavs es ds n).unreasonable;
      counted = λ n. subst (λ (k : ℕ). k ≤ one.counted) (sym b.concluded.counted) (subst (λ (k : ℕ). counted rule (figures division mavs ds) ≤ k) (sym a.concluded.counted) (follows rule division mavs es ds n).counted);
      spread = λ n s. at_both (λ f g. spread f ≤ℤ spread g) (subst (λ z. z ≤ℤ spread (figures division mavs ds)) (sym (spread_pairs es)) (subst (λ z. pairs es ≤ℤ z) (sym (spread_pairs ds)) (wider es ds n.0 s)));
      order = λ n s. passing ((follows rule division mavs es ds n).order s);
      average = λ n s. passing ((follows rule division mavs es ds n).average (subst (λ (f : Figures). pos 0 ≤ℤ f.total) a.concluded.figures s));
    }
