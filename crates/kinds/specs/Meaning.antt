-- What a kind of declaration means.
use Rattle.std.specs.Prelude.{ℕ, ◌^◌, ◌≤◌, Bool, List}

pub record Meaning : Type 0 where
  -- the bytes of its word
  pub word : List ℕ
  -- packages are weighed with a tare
  pub weighed : Bool
  -- the maximum allowable variation of a label in base units, numerator and denominator
  pub mav : ℕ → ℕ × ℕ

pub record InBounds (mav : ℕ × ℕ) : Type 0 where
  pub numerator : mav.0 ≤ 10 ^ 13
  pub some : 1 ≤ mav.1
  pub denominator : mav.1 ≤ 1000
