-- The smallest and the largest of the first places.
use Rattle.std.proofs.Common.{◌≡◌, ℕ, ◌+◌, ◌<◌, ◌≤◌, List, ◌∷◌, map, length, get_or, take, ℤ, ◌-ℤ◌, nat_abs, fold, sym, ap, ◌∙◌, arith}
use lib.Signed.{lt_z}
use Rattle.std.specs.Int.{int_max, int_min}
use Rattle.std.proofs.lemmas.List.{length-map, take_all}
use Rattle.std.proofs.lemmas.List.Sums.{fold_more}
use Rattle.std.proofs.lemmas.Bool.{cond_both}
use Rattle.packages.specs.declared.reading.Reading.{Reading}
use Rattle.packages.specs.declared.reading.Reading.TheVariants.{Empty}
use Rattle.sheet.specs.Tare.{range}

-- low and high are the smallest and the largest f of the first place and of i more
pub record Spans (f : Reading → ℤ) (first : Reading) (rest : List Reading) (i : ℕ) (low high : ℤ) : Type 0 where
  pub low_is : low ≡ fold int_min (f first) (take i (map f rest))
  pub high_is : high ≡ fold int_max (f first) (take i (map f rest))

pub spans_first : (f : Reading → ℤ) (rows rest : List Reading) (first r : Reading) (low high : ℤ) → rows ≡ first ∷ rest → r ≡ first → low ≡ f r → high ≡ f r → Spans f (get_or rows 0 Empty) rest 0 low high
spans_first f rows rest first r low high whole e a b =
    let at : r ≡ get_or rows 0 Empty = e ∙ sym (ap (λ (rs : List Reading). get_or rs 0 Empty) whole) in
    record { low_is = a ∙ ap f at; high_is = b ∙ ap f at }

-- a list that has a first
pub headed : (rows rest : List Reading) (first : Reading) → rows ≡ first ∷ rest → (1 ≤ length rows) × (rows ≡ get_or rows 0 Empty ∷ rest)
headed rows rest first e = (omega (arith, ap length e), e ∙ ap (λ (r : Reading). r ∷ rest) (sym (ap (λ (rs : List Reading). get_or rs 0 Empty) e)))

pub spans_more : (f : Reading → ℤ) (first : Reading) (rest : List Reading) (i : ℕ) (low high low' high' v : ℤ) → Spans f first rest i low high → i < length rest →
    v ≡ get_or (map f rest) i v → low' ≡ int_min low v → high' ≡ int_max high v → Spans f first rest (i + 1) low' high'
spans_more f first rest i low high low' high' v s h e a b =
    let k : i < length (map f rest) = simp length-map h in
    record {
      low_is = cc (a, s.low_is, e, fold_more int_min (f first) (map f rest) i v k);
      high_is = cc (b, s.high_is, e, fold_more int_max (f first) (map f rest) i v k);
    }

pub spans_range : (f : Reading → ℤ) (first : Reading) (rest rows : List Reading) (i : ℕ) (low high : ℤ) (r : ℕ) → Spans f first rest i low high → length rest ≤ i → rows ≡ first ∷ rest →
    r ≡ nat_abs (high -ℤ low) → r ≡ range (map f rows)
spans_range f first rest rows i low high r s h whole e =
    let all : take i (map f rest) ≡ map f rest = take_all i (map f rest) (simp length-map h) in
    let q : r ≡ range (map f (first ∷ rest)) = cc (e, s.low_is, s.high_is, all) in
    q ∙ ap (λ (xs : List Reading). range (map f xs)) (sym whole)

-- the smaller and the larger of two numbers are no larger in size
pub size_min : (m : ℕ) (x y z r : ℤ) → r ≡ int_min x y → y ≡ z → nat_abs x ≤ m → nat_abs z ≤ m → nat_abs r ≤ m
size_min m x y z r q e a b = rw q (cond_both (lt_z y x) y x (λ k. nat_abs k ≤ m) (λ _. rw e b) (λ _. a))

pub size_max : (m : ℕ) (x y z r : ℤ) → r ≡ int_max x y → y ≡ z → nat_abs x ≤ m → nat_abs z ≤ m → nat_abs r ≤ m
size_max m x y z r q e a b = rw q (cond_both (lt_z y x) x y (λ k. nat_abs k ≤ m) (λ _. a) (λ _. rw e b))
