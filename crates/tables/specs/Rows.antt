-- A printed table: rows, each with the largest amount that it reaches and what it gives.
use Rattle.std.specs.Prelude.{ℕ, Bool, true, if◌then◌else◌, ◌&&◌, List, [], ◌∷◌, nat_le, nat_lt, zip}

-- the rows of a column of ends beside a column of values, as many as the shorter has
abbrev pub rows : {V : Type 0} → List ℕ → List V → List (ℕ × V)
rows ends values = zip ends values

-- the first row that reaches the amount, and past the last row `past`
unfoldable pub reached : {V : Type 0} → List (ℕ × V) → V → ℕ → V
reached [] past amount = past
reached (row ∷ rest) past amount = if nat_le amount row.0 then row.1 else (reached rest past amount)

-- each row reaches further than the one before
abbrev pub above : {V : Type 0} → ℕ → List (ℕ × V) → Bool
above e [] = true
above e (row ∷ rest) = nat_lt e row.0 && above row.0 rest

abbrev pub ascending : {V : Type 0} → List (ℕ × V) → Bool
ascending [] = true
ascending (row ∷ rest) = above row.0 rest
