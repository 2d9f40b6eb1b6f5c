-- Sizes of products of integers, and when they fit a width.
use Rattle.std.proofs.Common.{ℕ, ◌*◌, ◌^◌, ◌<◌, ◌≤◌, ℤ, pos, negsuc, ◌*ℤ◌, nat_abs, ◌≤ℤ◌, mul-le-mul, arith, SFits}
use mir.Syntax.{Width}
use mir.Val.{hbits}
use borrow.Author.Differences.{ints}
use Rattle.std.proofs.lemmas.Int.{unsigned_abs-mul, fits_signed_from_abs}

pub mul_size : (m k : ℕ) (a b : ℤ) → nat_abs a ≤ m → nat_abs b ≤ k → nat_abs (a *ℤ b) ≤ m * k
mul_size m k a b h l = rw (unsigned_abs-mul a b) (mul-le-mul h l)

pub fits : (w : Width) (m : ℕ) (z : ℤ) → nat_abs z ≤ m → m < 2 ^ hbits w → SFits w z
fits w m z h l = fits_signed_from_abs w z (omega (arith, h, l))

pub sq_positive : (c : ℤ) → pos 0 ≤ℤ (c *ℤ c)
sq_positive (pos c) = omega (arith, ints)
sq_positive (negsuc c) = omega (arith, ints)
