-- Two lists of package errors for one lot, place by place.
use Rattle.std.specs.Prelude.{◌≡◌, ℕ, ◌<◌, List, length, ℤ, pos, ◌-ℤ◌, ◌≤ℤ◌, ◌<ℤ◌, Some, None, Option, slice_index_or}

-- the error at a place
abbrev pub at : List ℤ → ℕ → ℤ
at es k = slice_index_or es k (pos 0)

-- by how much it rose
abbrev pub rise : List ℤ → List ℤ → ℕ → ℤ
rise es ds k = at ds k -ℤ at es k

-- no error is lower in the second list
abbrev pub NoneLower : List ℤ → List ℤ → Type 0
NoneLower es ds = (length ds ≡ length es) × ((k : ℕ) → k < length es → at es k ≤ℤ at ds k)

-- no error rose by less than one that had stood lower
abbrev pub OrderKept : List ℤ → List ℤ → Type 0
OrderKept es ds = (j k : ℕ) → j < length es → k < length es → at es j <ℤ at es k → rise es ds j ≤ℤ rise es ds k

-- The first of n places that has the one property, where each place before it has the other. None if all have the other.
abbrev pub FirstPlace : (ℕ → Type 0) → (ℕ → Type 0) → ℕ → Option ℕ → Type 0
FirstPlace Yes No n None = (k : ℕ) → k < n → No k
FirstPlace Yes No n (Some place) = (place < n) × Yes place × ((k : ℕ) → k < place → No k)

-- the first place that is lower
abbrev pub Lower : List ℤ → List ℤ → Option ℕ → Type 0
Lower es ds o = FirstPlace (λ k. at ds k <ℤ at es k) (λ k. at es k ≤ℤ at ds k) (length es) o

-- the errors of a package in both lists
abbrev pub errors_at : List ℤ → List ℤ → ℕ → ℤ × ℤ
errors_at es ds k = (at es k, at ds k)

-- one package stood lower than another, and rose by more
abbrev pub Crosses : ℤ × ℤ → ℤ × ℤ → Type 0
Crosses low high = (low.0 <ℤ high.0) × ((high.1 -ℤ high.0) <ℤ (low.1 -ℤ low.0))

-- the first place that crosses with a package
abbrev pub CrossedBy : List ℤ → List ℤ → ℤ × ℤ → Option ℕ → Type 0
CrossedBy es ds low o = FirstPlace (λ k. Crosses low (errors_at es ds k)) (λ k. Crosses low (errors_at es ds k) → ⊥) (length es) o

-- the first place that crosses with the package at j
abbrev pub CrossedWith : List ℤ → List ℤ → ℕ → Option ℕ → Type 0
CrossedWith es ds j o = CrossedBy es ds (errors_at es ds j) o

-- the first two places that cross
abbrev pub Crossed : List ℤ → List ℤ → Option (ℕ × ℕ) → Type 0
Crossed es ds None = (j : ℕ) → j < length es → CrossedWith es ds j None
Crossed es ds (Some places) =
    FirstPlace (λ j. CrossedWith es ds j (Some places.1)) (λ j. CrossedWith es ds j None) (length es) (Some places.0)
