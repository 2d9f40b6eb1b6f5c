-- The figures of a sample of package errors. An error is negative where the package is short.
use Rattle.std.specs.Prelude.{ℕ, ◌*◌, ◌<◌, ◌≤◌, Bool, List, [], ◌∷◌, length, ℤ, pos, ◌+ℤ◌, ◌-ℤ◌, ◌*ℤ◌, neg_ℤ, int_lt, slice_index_or, unsigned_abs, count_by}
use Rattle.std.specs.List.{zip}
use Rattle.decision.specs.declared.outcome.Figures.{Figures}

-- what f gives of each error, added up
abbrev pub sum_of : (ℤ → ℤ) → List ℤ → ℤ
sum_of f [] = pos 0
sum_of f (e ∷ es) = f e +ℤ sum_of f es

-- S, the sum of the errors
abbrev pub total : List ℤ → ℤ
total es = sum_of (λ e. e) es

-- Q, the sum of their squares
abbrev pub squares : List ℤ → ℤ
squares es = sum_of (λ e. e *ℤ e) es

abbrev pub is_short : ℤ → Bool
is_short e = int_lt e (pos 0)

-- the shortage is above the MAV, a fraction of base units, of which the division has so many
abbrev pub is_unreasonable : ℕ → ℕ × ℕ → ℤ → Bool
is_unreasonable division mav e = int_lt (pos mav.0) (neg_ℤ e *ℤ pos division *ℤ pos mav.1)

-- H, how many are short
abbrev pub short : List ℤ → ℕ
short es = count_by is_short es

-- U, how many are unreasonable, each by the MAV at its own place
abbrev pub unreasonable : ℕ → List (ℕ × ℕ) → List ℤ → ℕ
unreasonable division mavs es = count_by (λ p. is_unreasonable division p.0 p.1) (zip mavs es)

abbrev pub figures : ℕ → List (ℕ × ℕ) → List ℤ → Figures
figures division mavs es =
    record { sample = length es; total = total es; squares = squares es; short = short es; unreasonable = unreasonable division mavs es }

-- the squares of the distances from x, added up
abbrev pub away : ℤ → List ℤ → ℤ
away x es = sum_of (λ e. (x -ℤ e) *ℤ (x -ℤ e)) es

-- the squares of the differences of all pairs of errors, added up: n * (n - 1) times the square of the sample standard deviation
abbrev pub pairs : List ℤ → ℤ
pairs [] = pos 0
pairs (e ∷ es) = away e es +ℤ pairs es

-- errors so small that no product of the deciding step leaves 64 bits; errors from -8000 to 8000 are
abbrev pub Small : List ℤ → Type 0
Small es = (k : ℕ) → k < length es → unsigned_abs (slice_index_or es k (pos 0)) ≤ 9000

-- and the figures of such a sample
pub record Bounded (f : Figures) : Type 0 where
  pub sample : f.sample ≤ 48
  pub total : unsigned_abs f.total ≤ 9000 * f.sample
  pub squares : unsigned_abs f.squares ≤ 81000000 * f.sample
