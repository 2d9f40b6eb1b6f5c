-- n * Q - S * S is the sum of the squares of all differences.
use Rattle.std.proofs.Common.{◌≡◌, ℕ, suc, List, [], ◌∷◌, length, ℤ, pos, ◌+ℤ◌, ◌-ℤ◌, ◌*ℤ◌, ◌≤ℤ◌, sym, ap, ◌∙◌, subst, arith}
use borrow.Author.Differences.{ints}
use Rattle.decision.specs.Sample.{total, squares, away, pairs, figures}
use Rattle.decision.specs.Verdicts.{spread}
use Rattle.decision.proofs.Bounds.{sq_positive}
use Rattle.decision.proofs.Ring.{v, n, add, sub, mul, same}

away_step : (k : ℕ) (x e q s : ℤ) → (x -ℤ e) *ℤ (x -ℤ e) +ℤ (q -ℤ (x *ℤ s +ℤ x *ℤ s) +ℤ pos k *ℤ (x *ℤ x)) ≡ (e *ℤ e +ℤ q) -ℤ (x *ℤ (e +ℤ s) +ℤ x *ℤ (e +ℤ s)) +ℤ pos (suc k) *ℤ (x *ℤ x)
away_step k x e q s =
    same (add (mul (sub (v x) (v e)) (sub (v x) (v e))) (add (sub (v q) (add (mul (v x) (v s)) (mul (v x) (v s)))) (mul (n k) (mul (v x) (v x)))))
    (add (sub (add (mul (v e) (v e)) (v q)) (add (mul (v x) (add (v e) (v s))) (mul (v x) (add (v e) (v s))))) (mul (n (suc k)) (mul (v x) (v x))))
    (omega arith)

away_none : (x : ℤ) → pos 0 ≡ pos 0 -ℤ (x *ℤ pos 0 +ℤ x *ℤ pos 0) +ℤ pos 0 *ℤ (x *ℤ x)
away_none x = same (n 0) (add (sub (n 0) (add (mul (v x) (n 0)) (mul (v x) (n 0)))) (mul (n 0) (mul (v x) (v x)))) (omega arith)

away_is : (x : ℤ) (es : List ℤ) → away x es ≡ squares es -ℤ (x *ℤ total es +ℤ x *ℤ total es) +ℤ pos (length es) *ℤ (x *ℤ x)
away_is x [] = away_none x
away_is x (e ∷ es) = ap (λ z. (x -ℤ e) *ℤ (x -ℤ e) +ℤ z) (away_is x es) ∙ away_step (length es) x e (squares es) (total es)

grow : (k : ℕ) (x q s : ℤ) → pos (suc k) *ℤ (x *ℤ x +ℤ q) -ℤ (x +ℤ s) *ℤ (x +ℤ s) ≡ (q -ℤ (x *ℤ s +ℤ x *ℤ s) +ℤ pos k *ℤ (x *ℤ x)) +ℤ (pos k *ℤ q -ℤ s *ℤ s)
grow k x q s =
    same (sub (mul (n (suc k)) (add (mul (v x) (v x)) (v q))) (mul (add (v x) (v s)) (add (v x) (v s))))
    (add (add (sub (v q) (add (mul (v x) (v s)) (mul (v x) (v s)))) (mul (n k) (mul (v x) (v x)))) (sub (mul (n k) (v q)) (mul (v s) (v s))))
    (omega arith)

-- the spread of a list
pub spread_pairs : (es : List ℤ) → pos (length es) *ℤ squares es -ℤ total es *ℤ total es ≡ pairs es
spread_pairs [] = omega (arith, ints)
spread_pairs (e ∷ es) =
    grow (length es) e (squares es) (total es)
    ∙ ap (λ z. z +ℤ (pos (length es) *ℤ squares es -ℤ total es *ℤ total es)) (sym (away_is e es)) ∙ ap (λ z. away e es +ℤ z) (spread_pairs es)

pub add_le : (a b c d : ℤ) → a ≤ℤ b → c ≤ℤ d → (a +ℤ c) ≤ℤ (b +ℤ d)
add_le a b c d h k = omega (arith, ints)

away_positive : (x : ℤ) (es : List ℤ) → pos 0 ≤ℤ away x es
away_positive x [] = omega (arith, ints)
away_positive x (e ∷ es) = add_le (pos 0) _ (pos 0) _ (sq_positive (x -ℤ e)) (away_positive x es)

pairs_positive : (es : List ℤ) → pos 0 ≤ℤ pairs es
pairs_positive [] = omega (arith, ints)
pairs_positive (e ∷ es) = add_le (pos 0) _ (pos 0) _ (away_positive e es) (pairs_positive es)

pub spread_positive : (division : ℕ) (mavs : List (ℕ × ℕ)) (es : List ℤ) → pos 0 ≤ℤ spread (figures division mavs es)
spread_positive division mavs es = subst (λ z. pos 0 ≤ℤ z) (sym (spread_pairs es)) (pairs_positive es)
