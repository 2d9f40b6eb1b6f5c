-- Integers as differences of naturals: an identity of integers becomes one of naturals, which omega multiplies out.
use Rattle.std.proofs.Common.{◌≡◌, ℕ, ◌+◌, ◌*◌, ◌≤◌, ℤ, pos, ◌+ℤ◌, ◌-ℤ◌, ◌*ℤ◌, neg_ℤ, ◌≤ℤ◌, ap, arith}
use borrow.Author.Differences.{up, down, same_in, at_most_in, sum_is_lem, product_is, neg_is}

-- z is p - q
pub record Is (z : ℤ) (p q : ℕ) : Type 0 where
  pub is : up z + q ≡ down z + p

pub v : (z : ℤ) → Is z (up z) (down z)
v z = record { is = omega arith }

pub n : (k : ℕ) → Is (pos k) k 0
n k = record { is = omega arith }

pub add : {a b : ℤ} {p q r s : ℕ} → Is a p q → Is b r s → Is (a +ℤ b) (p + r) (q + s)
add {a} {b} h k = record { is = omega (arith, sum_is_lem a b, h.is, k.is) }

pub neg : {a : ℤ} {p q : ℕ} → Is a p q → Is (neg_ℤ a) q p
neg {a} h = record { is = omega (arith, neg_is a, h.is) }

pub sub : {a b : ℤ} {p q r s : ℕ} → Is a p q → Is b r s → Is (a -ℤ b) (p + s) (q + r)
sub h k = add h (neg k)

cross : (a a' b b' p q r s : ℕ) → a + q ≡ a' + p → b + s ≡ b' + r → (a * b + a' * b') + (p * s + q * r) ≡ (a * b' + a' * b) + (p * r + q * s)
cross a a' b b' p q r s h k =
    let x : (a + q) * (b + r) ≡ (a' + p) * (b + r) = ap (λ (m : ℕ). m * (b + r)) h in
    let y : (a + q) * (b' + s) ≡ (a' + p) * (b' + s) = ap (λ (m : ℕ). m * (b' + s)) h in
    let z : (b + s) * (a + p) ≡ (b' + r) * (a + p) = ap (λ (m : ℕ). m * (a + p)) k in
    let w : (b + s) * (a' + q) ≡ (b' + r) * (a' + q) = ap (λ (m : ℕ). m * (a' + q)) k in
    omega arith

pub mul : {a b : ℤ} {p q r s : ℕ} → Is a p q → Is b r s → Is (a *ℤ b) (p * r + q * s) (p * s + q * r)
mul {a} {b} {p} {q} {r} {s} h k =
    record { is = omega (arith, product_is a b, cross (up a) (down a) (up b) (down b) p q r s h.is k.is) }

pub same : {a b : ℤ} {p q r s : ℕ} → Is a p q → Is b r s → p + s ≡ r + q → a ≡ b
same {a} {b} h k e = same_in a b (omega (arith, h.is, k.is))

pub most : {a b : ℤ} {p q r s : ℕ} → Is a p q → Is b r s → p + s ≤ r + q → a ≤ℤ b
most {a} {b} h k e = at_most_in a b (omega (arith, h.is, k.is))
