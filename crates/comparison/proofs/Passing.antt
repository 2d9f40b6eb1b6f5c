-- The rule for two lists.
use Rattle.std.proofs.Common.{◌≡◌, ℕ, suc, ◌+◌, ◌-◌, ◌*◌, ◌<◌, ◌≤◌, Bool, true, false, cond, count_by, ltb, List, [], ◌∷◌, length, replicate, ℤ, pos, negsuc, ◌*ℤ◌, neg_ℤ, ◌≤ℤ◌, sym, refl, ap, ◌∙◌, subst, suc-le-suc, mul-le-mul, arith}
use lib.Signed.{lt_z, le_z}
use borrow.Author.Differences.{ints, up, down}
use Rattle.std.specs.List.{zip}
use Rattle.std.proofs.lemmas.Bool.{le-ltb, ltb-false, false≢true}
use Rattle.std.proofs.lemmas.List.Sums.{sum_by-cons}
use Rattle.decision.proofs.Ring.{v, n, neg, mul, same, most}
use Rattle.decision.proofs.Spread.{add_le, spread_pairs}
use Rattle.decision.specs.declared.rule.Counted.{Counted}
use Rattle.decision.specs.declared.rule.Counted.TheVariants.{Unreasonable, Short}
use Rattle.decision.specs.declared.rule.Rule.{Rule}
use Rattle.decision.specs.Sample.{total, pairs, is_short, is_unreasonable, short, unreasonable, figures}
use Rattle.decision.specs.Verdicts.{chosen, counted, falls, first, Passes, spread}
use Rattle.comparison.specs.Laws.{Follows, TwoLists, OrderNeeded}
use Rattle.comparison.specs.Rises.{at, NoneLower, OrderKept}
use Rattle.comparison.proofs.Wider.{sq_up, wider}

-- the lists without their first errors
rest : (e d : ℤ) (es ds : List ℤ) → NoneLower (e ∷ es) (d ∷ ds) → NoneLower es ds
rest e d es ds h = (omega (arith, h.0), λ k l. h.1 (suc k) (suc-le-suc l))

-- a test that a higher error passes only where the lower one does
one_le : (s t : Bool) → (t ≡ true → s ≡ true) → cond t 1 0 ≤ cond s 1 0
one_le s t h = grind arith

-- so no more of the higher errors pass
fewer : {A : Type 0} (p q : A → Bool) (x y : A) (xs ys : List A) → (q y ≡ true → p x ≡ true) → count_by q ys ≤ count_by p xs → count_by q (y ∷ ys) ≤ count_by p (x ∷ xs)
fewer p q x y xs ys h k = omega (arith, sum_by-cons (λ z. cond (p z) 1 0) x xs, sum_by-cons (λ z. cond (q z) 1 0) y ys, one_le (p x) (q y) h)

short_falls : (a b : ℤ) → a ≤ℤ b → is_short b ≡ true → is_short a ≡ true
short_falls a b h e = grind (arith, ints)

-- a product by a natural keeps the order
mul_up : (a b : ℤ) (k : ℕ) → a ≤ℤ b → (a *ℤ pos k) ≤ℤ (b *ℤ pos k)
mul_up a b k h = let z : (up a + down b) * k ≤ (up b + down a) * k = mul-le-mul (omega (arith, ints)) (omega arith) in most (mul (v a) (n k)) (mul (v b) (n k)) (omega arith)

mul_up_left : (a b : ℤ) (k : ℕ) → a ≤ℤ b → (pos k *ℤ a) ≤ℤ (pos k *ℤ b)
mul_up_left a b k h = let z : (up a + down b) * k ≤ (up b + down a) * k = mul-le-mul (omega (arith, ints)) (omega arith) in most (mul (n k) (v a)) (mul (n k) (v b)) (omega arith)

neg_down : (a b : ℤ) → a ≤ℤ b → neg_ℤ b ≤ℤ neg_ℤ a
neg_down a b h = omega (arith, ints)

lt_le : (a b c : ℤ) → b ≤ℤ c → lt_z a b ≡ true → lt_z a c ≡ true
lt_le a b c h e = sym (omega (arith, ints))

unreasonable_falls : (division : ℕ) (mav : ℕ × ℕ) (a b : ℤ) → a ≤ℤ b → is_unreasonable division mav b ≡ true → is_unreasonable division mav a ≡ true
unreasonable_falls division mav a b h e = lt_le (pos mav.0) _ _ (mul_up _ _ mav.1 (mul_up _ _ division (neg_down a b h))) e

pub fewer_short : (es ds : List ℤ) → NoneLower es ds → short ds ≤ short es
fewer_short [] [] h = omega arith
fewer_short [] (d ∷ ds) h = absurd (omega (arith, h.0))
fewer_short (e ∷ es) [] h = absurd (omega (arith, h.0))
fewer_short (e ∷ es) (d ∷ ds) h = fewer is_short is_short e d es ds (short_falls e d (h.1 0 (omega arith))) (fewer_short es ds (rest e d es ds h))

pub fewer_unreasonable : (division : ℕ) (mavs : List (ℕ × ℕ)) (es ds : List ℤ) → NoneLower es ds → unreasonable division mavs ds ≤ unreasonable division mavs es
fewer_unreasonable division [] es ds h = omega arith
fewer_unreasonable division (mav ∷ mavs) [] [] h = omega arith
fewer_unreasonable division (mav ∷ mavs) [] (d ∷ ds) h = absurd (omega (arith, h.0))
fewer_unreasonable division (mav ∷ mavs) (e ∷ es) [] h = absurd (omega (arith, h.0))
fewer_unreasonable division (mav ∷ mavs) (e ∷ es) (d ∷ ds) h =
    let above = λ (p : (ℕ × ℕ) × ℤ). is_unreasonable division p.0 p.1 in
    fewer above above (mav, e) (mav, d) (zip mavs es) (zip mavs ds) (unreasonable_falls division mav e d (h.1 0 (omega arith))) (fewer_unreasonable division mavs es ds (rest e d es ds h))

total_up : (es ds : List ℤ) → NoneLower es ds → total es ≤ℤ total ds
total_up [] [] h = omega (arith, ints)
total_up [] (d ∷ ds) h = absurd (omega (arith, h.0))
total_up (e ∷ es) [] h = absurd (omega (arith, h.0))
total_up (e ∷ es) (d ∷ ds) h = add_le _ _ _ _ (h.1 0 (omega arith)) (total_up es ds (rest e d es ds h))

-- squares turn the order below zero
neg_sq : (a : ℤ) → neg_ℤ a *ℤ neg_ℤ a ≡ a *ℤ a
neg_sq a = same (mul (neg (v a)) (neg (v a))) (mul (v a) (v a)) (omega arith)

sq_down : (a b : ℤ) → a ≤ℤ b → b ≤ℤ pos 0 → (b *ℤ b) ≤ℤ (a *ℤ a)
sq_down a b h z = rw (← neg_sq a, ← neg_sq b) (sq_up (neg_ℤ b) (neg_ℤ a) (omega (arith, ints)) (omega (arith, ints)))

not_lt : (x y z w : ℤ) → x ≤ℤ z → w ≤ℤ y → lt_z x y ≡ false → lt_z z w ≡ false
not_lt x y z w h k e = sym (omega (arith, ints))

-- the test of the average, on plain numbers
abbrev test : ℕ → ℕ → ℤ → ℤ → Bool
test factor k s z = lt_z (pos (factor * factor * k) *ℤ z) (s *ℤ s *ℤ pos (1000000 * (k - 1)))

test_less : (factor k : ℕ) (s s' z z' : ℤ) → z ≤ℤ z' → (s' *ℤ s') ≤ℤ (s *ℤ s) → test factor k s z ≡ false → test factor k s' z' ≡ false
test_less factor k s s' z z' h l e = not_lt _ _ _ _ (mul_up_left z z' (factor * factor * k) h) (mul_up _ _ (1000000 * (k - 1)) l) e

-- what passes by the first verdict that fits still does
kept_by_first : (m m' p o o' a a' : Bool) → (m ≡ false → m' ≡ false) → (o ≡ true → o' ≡ true) → (a ≡ false → o' ≡ false → a' ≡ false) → Passes (first m p o a) → Passes (first m' p o' a')
kept_by_first m m' p o o' a a' hm ho ha h = grind arith

allowed_less : (c x y : ℕ) → y ≤ x → ltb c x ≡ false → ltb c y ≡ false
allowed_less c x y h e = le-ltb c y (omega (arith, ltb-false c x e))

zero_up : (a b : ℤ) → a ≤ℤ b → le_z (pos 0) a ≡ true → le_z (pos 0) b ≡ true
zero_up a b h e = sym (omega (arith, ints))

zero_no : (b : ℤ) → le_z (pos 0) b ≡ false → b ≤ℤ pos 0
zero_no b e = omega (arith, ints)

zero_yes : (b : ℤ) → pos 0 ≤ℤ b → le_z (pos 0) b ≡ true
zero_yes b e = sym (omega (arith, ints))

chosen_le : (which : Counted) (u u' h h' : ℕ) → u' ≤ u → h' ≤ h → chosen which u' h' ≤ chosen which u h
chosen_le Unreasonable u u' h h' p q = p
chosen_le Short u u' h h' p q = q

module _ (rule : Rule) (division : ℕ) (mavs : List (ℕ × ℕ)) (es ds : List ℤ) (h : NoneLower es ds) where
  counted_le : counted rule (figures division mavs ds) ≤ counted rule (figures division mavs es)
  counted_le = chosen_le rule.counted _ _ _ _ (fewer_unreasonable division mavs es ds h) (fewer_short es ds h)

  -- the spread of the second list, with the first list's length
  falls_less : OrderKept es ds → le_z (pos 0) (total ds) ≡ false → falls rule.factor (figures division mavs es) ≡ false → falls rule.factor (figures division mavs ds) ≡ false
  falls_less s o e =
      subst (λ (k : ℕ). test rule.factor k (total ds) (spread (figures division mavs ds)) ≡ false) (sym h.0)
      (test_less rule.factor (length es) (total es) (total ds) _ _
      (subst (λ z. z ≤ℤ spread (figures division mavs ds)) (sym (spread_pairs es)) (subst (λ z. pairs es ≤ℤ z) (sym (spread_pairs ds)) (wider es ds h.0 s)))
      (sq_down _ _ (total_up es ds h) (zero_no _ o)) e)

  pub follows : Follows rule division mavs es ds
  follows = record {
    short = fewer_short es ds h;
    unreasonable = fewer_unreasonable division mavs es ds h;
    counted = counted_le;
    order = λ s. kept_by_first _ _ _ _ _ _ _ (allowed_less rule.allowed _ _ counted_le) (zero_up _ _ (total_up es ds h)) (λ a o. falls_less s o a);
    average = λ z. kept_by_first _ _ _ _ _ _ _ (allowed_less rule.allowed _ _ counted_le) (zero_up _ _ (total_up es ds h))
        (λ a o. absurd (false≢true (sym o ∙ zero_up _ _ (total_up es ds h) (zero_yes _ z))));
  }

pub two_lists : TwoLists
two_lists rule division mavs es ds h = follows rule division mavs es ds h

-- one error that is not lower, before lists of which none is
higher : (e d : ℤ) (es ds : List ℤ) → e ≤ℤ d → NoneLower es ds → NoneLower (e ∷ es) (d ∷ ds)
higher e d es ds h k = (ap suc k.0, at_each)
  where
    at_each : (i : ℕ) → i < suc (length es) → at (e ∷ es) i ≤ℤ at (d ∷ ds) i
    at_each Prim.Native.Nat.zero l = h
    at_each (suc i) l = k.1 i (omega arith)

alike : (es : List ℤ) → NoneLower es es
alike es = (refl, λ k l. omega (arith, ints))

pub order_needed : OrderNeeded
order_needed = record {
  heavier = higher (negsuc 39) (negsuc 0) (replicate 11 (negsuc 0)) (replicate 11 (negsuc 0)) (omega (arith, ints)) (alike (replicate 11 (negsuc 0)));
  passes = tt;
  fails = λ h. h;
}
