-- Rounding to the nearest whole number, a half to the even one.
use Rattle.std.specs.Prelude.{◌≡◌, ℕ, ◌+◌, ◌-◌, ◌*◌, ◌/◌, ◌%◌, ◌≤◌, if◌then◌else◌, nat_lt}

-- below half, above half, at the half
abbrev pub nearest : ℕ → ℕ → ℕ
nearest sum parts =
    if nat_lt (2 * (sum % parts)) parts then sum / parts else
    (if nat_lt parts (2 * (sum % parts)) then sum / parts + 1 else sum / parts + sum / parts % 2)

-- how far two whole numbers are apart
abbrev pub apart : ℕ → ℕ → ℕ
apart a b = (a - b) + (b - a)

-- r is sum / parts to the nearest whole number: no whole number is nearer, and of two equally near it is the even one
pub record Nearest (sum parts r : ℕ) : Type 0 where
  pub nearest : (w : ℕ) → apart (r * parts) sum ≤ apart (w * parts) sum
  pub even : 2 * apart (r * parts) sum ≡ parts → r % 2 ≡ 0

abbrev pub NearestLaw : Type 0
NearestLaw = (sum parts : ℕ) → 1 ≤ parts → Nearest sum parts (nearest sum parts)
