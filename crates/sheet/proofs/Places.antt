-- The records at the first places, by what they read.
use Rattle.std.proofs.Common.{◌≡◌, ℕ, ◌<◌, ◌≤◌, List, map, length, get_or, take, sym, ap, ◌∙◌, arith}
use Rattle.std.proofs.lemmas.List.{length-map, length-take-le, get_or-map, take-map, take_all}
use Rattle.packages.specs.declared.reading.Reading.{Reading}

-- the record at a place
pub read_at : {X : Type 0} (read : X → Reading) (xs : List X) (i : ℕ) (x : X) (d : Reading) → i < length xs → x ≡ get_or xs i x → read x ≡ get_or (map read xs) i d
read_at read xs i x d l e = ap read e ∙ sym (get_or-map read xs i x d l)

-- and what is made of it
pub made_at : {X Y : Type 0} (read : X → Reading) (f : Reading → Y) (xs : List X) (i : ℕ) (x : X) (d : Y) → i < length xs → x ≡ get_or xs i x → f (read x) ≡ get_or (map f (map read xs)) i d
made_at read f xs i x d l e =
    let k : i < length (map read xs) = simp length-map l in
    ap f (read_at read xs i x (read x) l e) ∙ sym (get_or-map f (map read xs) i (read x) d k)

-- the readings of the first places are the first of all
pub first_read : {X : Type 0} (read : X → Reading) (xs first : List X) (n : ℕ) → first ≡ take n xs → map read first ≡ take n (map read xs)
first_read read xs first n e = ap (map read) e ∙ sym (take-map read n xs)

pub first_length : {X : Type 0} (xs first : List X) (n : ℕ) → first ≡ take n xs → n ≤ length xs → length first ≡ n
first_length xs first n e h = ap length e ∙ length-take-le n xs h

pub take_twice : {X : Type 0} (n : ℕ) (xs : List X) → n ≤ length xs → take n (take n xs) ≡ take n xs
take_twice n xs h = let l : length (take n xs) ≤ n = omega (arith, length-take-le n xs h) in take_all n (take n xs) l
