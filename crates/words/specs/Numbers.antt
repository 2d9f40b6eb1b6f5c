-- Numbers of one to nine decimal digits, with no zero in front but 0 itself.
use Rattle.std.specs.Prelude.{ℕ, ◌+◌, ◌-◌, ◌*◌, Bool, cond, not, ◌&&◌, ◌||◌, List, [], ◌∷◌, length, Some, None, Option, ◌==◌, nat_le, nat_lt, slice_index}
use Rattle.std.specs.Str.{all_ascii_digits}

-- the number that digits write behind the number so far
abbrev pub read_on : ℕ → List ℕ → ℕ
read_on n [] = n
read_on n (d ∷ ds) = read_on (n * 10 + (d - 48)) ds

abbrev pub is_number : List ℕ → Bool
is_number bs = all_ascii_digits bs && (nat_lt 0 (length bs) && (nat_le (length bs) 9 && (not (slice_index bs 0 == 48) || nat_le (length bs) 1)))

abbrev pub number_of : List ℕ → Option ℕ
number_of bs = cond (is_number bs) (Some (read_on 0 bs)) None
