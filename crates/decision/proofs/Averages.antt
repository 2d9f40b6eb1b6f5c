-- The verdict average, in the subject's words; and that an unreasonable package is short.
use Rattle.std.proofs.Common.{◌≡◌, ℕ, ◌-◌, ◌*◌, ◌≤◌, Bool, true, false, cond, not, List, [], ◌∷◌, length, ℤ, pos, negsuc, ◌*ℤ◌, neg_ℤ, ◌≤ℤ◌, ◌<ℤ◌, sym, subst, arith}
use lib.Signed.{lt_z, le_z}
use borrow.Author.Differences.{ints}
use Rattle.std.proofs.lemmas.Bool.{ltb-false, le-ltb}
use Rattle.std.proofs.lemmas.List.Sums.{sum_by-cons, count_by-le-length}
use Rattle.std.specs.List.{zip}
use Rattle.decision.specs.declared.outcome.Verdict.TheVariants.{Average}
use Rattle.decision.specs.declared.rule.Rule.{Rule}
use Rattle.decision.specs.Sample.{total, is_short, is_unreasonable, short, unreasonable, figures}
use Rattle.decision.specs.Verdicts.{counted, first, verdict, ByAverage}
use Rattle.decision.proofs.Ring.{n, neg, mul, most}
use Rattle.decision.proofs.Spread.{spread_pairs}

lt_in : (a b : ℤ) → lt_z a b ≡ true → a <ℤ b
lt_in a b e = omega (arith, ints)

lt_out : (a b : ℤ) → a <ℤ b → lt_z a b ≡ true
lt_out a b h = sym (omega (arith, ints))

below_in : (a : ℤ) → le_z (pos 0) a ≡ false → a <ℤ pos 0
below_in a e = omega (arith, ints)

below_out : (a : ℤ) → a <ℤ pos 0 → le_z (pos 0) a ≡ false
below_out a h = sym (omega (arith, ints))

first_average : (m p o a : Bool) → first m (not p) o a ≡ Average → (m ≡ false) × (p ≡ true) × (o ≡ false) × (a ≡ true)
first_average m p o a e = (grind arith, grind arith, grind arith, grind arith)

average_first : (m p o a : Bool) → m ≡ false → p ≡ true → o ≡ false → a ≡ true → first m (not p) o a ≡ Average
average_first m p o a h i j k = grind arith

module _ (rule : Rule) (division : ℕ) (mavs : List (ℕ × ℕ)) (es : List ℤ) where
  pub by_average : ByAverage rule es (counted rule (figures division mavs es)) (verdict rule (figures division mavs es))
  by_average = record {
    fails = λ e. let a = first_average _ rule.average _ _ e in (
      ltb-false rule.allowed _ a.0,
      a.1,
      record {
        shortfall = below_in (total es) a.2;
        above = subst (λ z. (pos (rule.factor * rule.factor * length es) *ℤ z) <ℤ (total es *ℤ total es *ℤ pos (1000000 * (length es - 1)))) (spread_pairs es) (lt_in _ _ a.3);
      },
    );
    only = λ k a l. average_first _ rule.average _ _ (le-ltb rule.allowed _ k) a (below_out (total es) l.shortfall)
        (lt_out _ _ (subst (λ z. (pos (rule.factor * rule.factor * length es) *ℤ z) <ℤ (total es *ℤ total es *ℤ pos (1000000 * (length es - 1)))) (sym (spread_pairs es)) l.above));
  }

-- a package that is not short has no shortage
no_shortage : (a d b : ℕ) → (neg_ℤ (pos a) *ℤ pos d *ℤ pos b) ≤ℤ pos 0
no_shortage a d b = most (mul (mul (neg (n a)) (n d)) (n b)) (n 0) (omega arith)

not_above : (m : ℕ) (z : ℤ) → z ≤ℤ pos 0 → lt_z (pos m) z ≡ false
not_above m z h = sym (omega (arith, ints))

one_le : (d : ℕ) (mav : ℕ × ℕ) (e : ℤ) → cond (is_unreasonable d mav e) 1 0 ≤ cond (is_short e) 1 0
one_le d mav (pos a) = rw (not_above mav.0 _ (no_shortage a d mav.1)) (omega arith)
one_le d mav (negsuc a) = grind arith

pub unreasonable_short : (d : ℕ) (mavs : List (ℕ × ℕ)) (es : List ℤ) → unreasonable d mavs es ≤ short es
unreasonable_short d [] es = omega arith
unreasonable_short d (mav ∷ mavs) [] = omega arith
unreasonable_short d (mav ∷ mavs) (e ∷ es) =
    let a = sum_by-cons (λ (p : (ℕ × ℕ) × ℤ). cond (is_unreasonable d p.0 p.1) 1 0) (mav, e) (zip mavs es) in
    let b = sum_by-cons (λ (x : ℤ). cond (is_short x) 1 0) e es in
    omega (arith, one_le d mav e, unreasonable_short d mavs es)

pub short_few : (es : List ℤ) → short es ≤ length es
short_few es = count_by-le-length is_short es
