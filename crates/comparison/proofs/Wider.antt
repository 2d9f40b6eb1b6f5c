-- Rises that keep the order never narrow the spread.
use Rattle.std.proofs.Common.{◌≡◌, ℕ, suc, ◌<◌, ◌≤◌, List, [], ◌∷◌, length, ℤ, pos, negsuc, ◌-ℤ◌, ◌*ℤ◌, ◌≤ℤ◌, ◌<ℤ◌, sym, subst, suc-le-suc, mul-le-mul, arith}
use borrow.Author.Differences.{ints}
use Rattle.std.proofs.lemmas.Int.{by_lt_z}
use Rattle.decision.proofs.Bounds.{sq_positive}
use Rattle.decision.proofs.Ring.{v, sub, mul, same}
use Rattle.decision.proofs.Spread.{add_le}
use Rattle.decision.specs.Sample.{away}
use Rattle.comparison.specs.Laws as laws
use Rattle.comparison.specs.Rises.{at}

-- squares keep the order, from zero up
pub sq_up : (a b : ℤ) → pos 0 ≤ℤ a → a ≤ℤ b → (a *ℤ a) ≤ℤ (b *ℤ b)
sq_up (pos a) (pos b) z h = let l : a ≤ b = omega (arith, ints) in omega (arith, ints, mul-le-mul l l)
sq_up (pos a) (negsuc b) z h = absurd (omega (arith, ints))
sq_up (negsuc a) b z h = absurd (omega (arith, ints))

sq_flip : (a b : ℤ) → (a -ℤ b) *ℤ (a -ℤ b) ≡ (b -ℤ a) *ℤ (b -ℤ a)
sq_flip a b = same (mul (sub (v a) (v b)) (sub (v a) (v b))) (mul (sub (v b) (v a)) (sub (v b) (v a))) (omega arith)

-- the square of no difference is the least
sq_none : (a b c : ℤ) → a ≡ b → ((a -ℤ b) *ℤ (a -ℤ b)) ≤ℤ (c *ℤ c)
sq_none a b c e = let z : a -ℤ b ≡ pos 0 = omega (arith, ints) in subst (λ x. (x *ℤ x) ≤ℤ (c *ℤ c)) (sym z) (sq_positive c)

-- two packages that do not come nearer to each other
apart : (x e y d : ℤ) → (x <ℤ e → (y -ℤ x) ≤ℤ (d -ℤ e)) → (e <ℤ x → (d -ℤ e) ≤ℤ (y -ℤ x)) → ((x -ℤ e) *ℤ (x -ℤ e)) ≤ℤ ((y -ℤ d) *ℤ (y -ℤ d))
apart x e y d h k =
    by_lt_z x e
    (λ l. let g : (y -ℤ x) ≤ℤ (d -ℤ e) = h l in
    subst (λ z. z ≤ℤ ((y -ℤ d) *ℤ (y -ℤ d))) (sq_flip e x)
    (subst (λ z. ((e -ℤ x) *ℤ (e -ℤ x)) ≤ℤ z) (sq_flip d y) (sq_up (e -ℤ x) (d -ℤ y) (omega (arith, ints)) (omega (arith, ints)))))
    (λ l. by_lt_z e x
    (λ m. let g : (d -ℤ e) ≤ℤ (y -ℤ x) = k m in sq_up (x -ℤ e) (y -ℤ d) (omega (arith, ints)) (omega (arith, ints)))
    (λ m. sq_none x e (y -ℤ d) (omega (arith, ints))))

away_le : (x y : ℤ) (es ds : List ℤ) → length ds ≡ length es → ((k : ℕ) → k < length es → ((x -ℤ at es k) *ℤ (x -ℤ at es k)) ≤ℤ ((y -ℤ at ds k) *ℤ (y -ℤ at ds k))) → away x es ≤ℤ away y ds
away_le x y [] [] l h = omega (arith, ints)
away_le x y [] (d ∷ ds) l h = absurd (omega arith)
away_le x y (e ∷ es) [] l h = absurd (omega arith)
away_le x y (e ∷ es) (d ∷ ds) l h = add_le _ _ _ _ (h 0 (omega arith)) (away_le x y es ds (omega arith) (λ k lt. h (suc k) (suc-le-suc lt)))

pub wider : laws.Wider
wider [] [] l s = omega (arith, ints)
wider [] (d ∷ ds) l s = absurd (omega arith)
wider (e ∷ es) [] l s = absurd (omega arith)
wider (e ∷ es) (d ∷ ds) l s =
    add_le _ _ _ _
    (away_le e d es ds (omega arith) (λ k lt. apart e (at es k) d (at ds k) (s 0 (suc k) (omega arith) (suc-le-suc lt)) (s (suc k) 0 (suc-le-suc lt) (omega arith))))
    (wider es ds (omega arith) (λ j k jl kl. s (suc j) (suc k) (suc-le-suc jl) (suc-le-suc kl)))
