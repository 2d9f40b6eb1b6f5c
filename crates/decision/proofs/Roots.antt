-- The whole square root of a quotient.
use Rattle.std.proofs.Common.{ℕ, ◌+◌, ◌-◌, ◌*◌, ◌/◌, ◌<◌, ◌≤◌, subst, ⊎_elim, mul-le-mul_right, mul_assoc, mul-le-mul, arith}
use native.Mathlib.Nat.{mul-div-le}
use Rattle.std.proofs.lemmas.Nat.{le-div}
use Rattle.std.proofs.lemmas.Bool.{cases_lt}
use Rattle.decision.specs.Verdicts.{Largest}

smaller : (w r : ℕ) → w * w < (r + 1) * (r + 1) → w ≤ r
smaller w r h = ⊎_elim (λ l. omega arith) (λ l. omega (arith, mul-le-mul l l)) (cases_lt w (r + 1))

pub largest : (n x r : ℕ) → 0 < n * (n - 1) → r * r ≤ x / (n * (n - 1)) → x / (n * (n - 1)) < (r + 1) * (r + 1) → Largest n x r
largest n x r p h k = record {
  holds = let a : r * r * (n * (n - 1)) ≤ x / (n * (n - 1)) * (n * (n - 1)) = mul-le-mul_right (n * (n - 1)) h in
      let b : n * (n - 1) * (x / (n * (n - 1))) ≤ x = mul-div-le x (n * (n - 1)) in
      rw (mul_assoc (r * r) n (n - 1)) (omega arith);
  most = λ w l. let a : w * w * (n * (n - 1)) ≤ x = subst (λ (m : ℕ). m ≤ x) (mul_assoc (w * w) n (n - 1)) l in
      let b : w * w ≤ x / (n * (n - 1)) = le-div (w * w) x (n * (n - 1)) p a in
      smaller w r (omega arith);
}
