-- A number that is read digit by digit.
use Rattle.std.proofs.Common.{◌≡◌, ℕ, zero, suc, ◌+◌, ◌-◌, ◌*◌, ◌^◌, ◌<◌, ◌≤◌, true, ◌&&◌, ◌⊎◌, List, [], ◌∷◌, ◌++◌, length, get_or, take, refl, sym, ap, ◌∙◌, ⊎_elim, arith, length-take-le}
use Rattle.std.specs.Char.{is_ascii_digit}
use Rattle.std.specs.List.{list_all}
use Rattle.std.specs.Str.{all_ascii_digits}
use Rattle.std.proofs.lemmas.List.{take_more}
use Rattle.std.proofs.lemmas.Str.Parse.{digit_at, digits_value_short}
use Rattle.std.proofs.lemmas.Bool.{and_parts, and_from, or_left, or_right, not_from_false, lt-ltb, le-leb, ne_eqb}
use Rattle.words.specs.Numbers.{read_on, is_number}
use Rattle.words.proofs.Own.{own}

-- the test of a chain is that of the definition
all_digits : (bs : List ℕ) → list_all is_ascii_digit bs ≡ all_ascii_digits bs
all_digits [] = refl
all_digits (b ∷ bs) = ap (λ v. is_ascii_digit b && v) (all_digits bs)

pub are_digits : (bs : List ℕ) → true ≡ list_all is_ascii_digit bs → all_ascii_digits bs ≡ true
are_digits bs h = sym (all_digits bs) ∙ sym h

pub digit_here : (bs : List ℕ) (i : ℕ) → all_ascii_digits bs ≡ true → i < length bs → (48 ≤ get_or bs i 0) × (get_or bs i 0 ≤ 57)
digit_here bs i p h = digit_at bs i (own.to bs p) h

front_digits : (bs : List ℕ) (i : ℕ) → all_ascii_digits bs ≡ true → all_ascii_digits (take i bs) ≡ true
front_digits bs zero p = refl
front_digits [] (suc i) p = refl
front_digits (b ∷ bs) (suc i) p = let h = and_parts _ _ p in and_from _ _ h.0 (front_digits bs i h.1)

read_on_push : (n : ℕ) (ds : List ℕ) (c : ℕ) → read_on n (ds ++ c ∷ []) ≡ read_on n ds * 10 + (c - 48)
read_on_push n [] c = refl
read_on_push n (d ∷ ds) c = read_on_push (n * 10 + (d - 48)) ds c

pub read_on_more : (bs : List ℕ) (i : ℕ) → i < length bs → read_on 0 (take (i + 1) bs) ≡ read_on 0 (take i bs) * 10 + (get_or bs i 0 - 48)
read_on_more bs i h = ap (read_on 0) (take_more bs i 0 h) ∙ read_on_push 0 (take i bs) (get_or bs i 0)

pub small : (bs : List ℕ) (i : ℕ) → all_ascii_digits bs ≡ true → length bs ≤ 9 → i < length bs → read_on 0 (take i bs) < 10 ^ 8
small bs i p nine h = digits_value_short own (take i bs) 8 (front_digits bs i p) (omega (arith, length-take-le i bs (omega arith)))

pub fits_number : (bs : List ℕ) → all_ascii_digits bs ≡ true → 0 < length bs → length bs ≤ 9 → ((get_or bs 0 0 ≡ 48) × (length bs ≤ 1)) ⊎ (get_or bs 0 0 ≡ 48 → ⊥) → is_number bs ≡ true
fits_number bs p some nine lead =
    and_from _ _ p (and_from _ _ (lt-ltb _ _ some) (and_from _ _ (le-leb _ _ nine)
    (⊎_elim (λ h. or_right _ _ (le-leb _ _ h.1)) (λ h. or_left _ _ (not_from_false _ (ne_eqb _ _ h))) lead)))
