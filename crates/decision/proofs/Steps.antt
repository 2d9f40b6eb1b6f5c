-- The sums of the first i errors.
use Rattle.std.proofs.Common.{◌≡◌, ℕ, ◌+◌, ◌<◌, List, [], ◌∷◌, ◌++◌, length, get_or, take, ℤ, pos, ◌+ℤ◌, sym, ap, ◌∙◌, arith}
use lib.IntN.{+ℤ_assoc}
use borrow.Author.Differences.{ints}
use Rattle.std.proofs.lemmas.List.{take_more}
use Rattle.decision.specs.Sample.{sum_of}

sum_push : (f : ℤ → ℤ) (es : List ℤ) (e : ℤ) → sum_of f (es ++ e ∷ []) ≡ sum_of f es +ℤ f e
sum_push f [] e = omega (arith, ints)
sum_push f (x ∷ es) e = ap (λ z. f x +ℤ z) (sum_push f es e) ∙ sym (+ℤ_assoc (f x) (sum_of f es) (f e))

pub sum_more : (f : ℤ → ℤ) (es : List ℤ) (i : ℕ) → i < length es → sum_of f (take (i + 1) es) ≡ sum_of f (take i es) +ℤ f (get_or es i (pos 0))
sum_more f es i l = ap (sum_of f) (take_more es i (pos 0) l) ∙ sum_push f (take i es) (get_or es i (pos 0))
