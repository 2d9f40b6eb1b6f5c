-- Emptying the first places of a list.
use Rattle.std.proofs.Common.{◌≡◌, ℕ, zero, suc, ◌+◌, Bool, true, false, List, [], ◌∷◌, ◌++◌, map, length, take, drop, set, min, refl, ap, add-one, arith}
use Rattle.std.proofs.lemmas.List.{length-map, map-set, map-append, take-map, drop-map}
use Rattle.packages.specs.declared.reading.Reading.{Reading}
use Rattle.packages.specs.declared.reading.Reading.TheVariants.{Empty}
use Rattle.packages.specs.Readings.{stored, emptied}

-- a record keeps an empty reading, with room for a label or without
stored_empty : (labeled : Bool) → stored labeled Empty ≡ Empty
stored_empty true = refl
stored_empty false = refl

set_emptied : (i : ℕ) (rows : List Reading) → set (emptied i rows) i Empty ≡ emptied (suc i) rows
set_emptied zero [] = refl
set_emptied zero (row ∷ rows) = refl
set_emptied (suc i) [] = refl
set_emptied (suc i) (row ∷ rows) = ap (λ rest. Empty ∷ rest) (set_emptied i rows)

-- one place more of some records, by what they read
pub emptied_more : {X : Type 0} (read : X → Reading) (labeled : Bool) (first now : List X) (i : ℕ) (held : X) → read held ≡ stored labeled Empty → map read now ≡ emptied i (map read first) →
    map read (set now i held) ≡ emptied (i + 1) (map read first)
emptied_more read labeled first now i held e m = rw add-one (cc (map-set read now i held, set_emptied i (map read first), stored_empty labeled))

-- the part that is emptied, and the rest
emptied_front : (n k : ℕ) (rows : List Reading) → k ≡ min n (length rows) → emptied k (take k rows) ++ drop k rows ≡ emptied n rows
emptied_front zero zero rows e = refl
emptied_front zero (suc k) rows e = absurd (omega arith)
emptied_front (suc n) zero [] e = refl
emptied_front (suc n) (suc k) [] e = absurd (omega arith)
emptied_front (suc n) zero (row ∷ rows) e = absurd (omega arith)
emptied_front (suc n) (suc k) (row ∷ rows) e = ap (λ rest. Empty ∷ rest) (emptied_front n k rows (omega arith))

-- the records that stand so, at the end
pub emptied_records : {X : Type 0} (read : X → Reading) (n k i : ℕ) (rows first first' rest : List X) → k ≡ min n (length rows) → first ≡ take k rows → rest ≡ drop k rows → i ≡ k →
    map read first' ≡ emptied i (map read first) → map read (first' ++ rest) ≡ emptied n (map read rows)
emptied_records read n k i rows first first' rest e f g h m =
    let whole = emptied_front n k (map read rows) (simp length-map e) in
    cc (map-append read first' rest, take-map read k rows, drop-map read k rows)
