-- Bytes that are written into output that is lent.
use Rattle.std.specs.Prelude.{◌≡◌, ℕ, ◌≤◌, List, [], ◌∷◌, ◌++◌, length, drop}

-- out begins with bs, which end at a place, and is as old past them
pub record Wrote (old bs : List ℕ) (at : ℕ) (out : List ℕ) : Type 0 where
  pub end : at ≡ length bs
  pub fits : at ≤ length out
  pub bytes : out ≡ bs ++ drop (length bs) old

-- single spaces between the words
abbrev pub spaced : List (List ℕ) → List ℕ
spaced [] = []
spaced (w ∷ []) = w
spaced (w ∷ v ∷ ws) = w ++ 32 ∷ spaced (v ∷ ws)

abbrev pub line : List (List ℕ) → List ℕ
line ws = spaced ws ++ 10 ∷ []
