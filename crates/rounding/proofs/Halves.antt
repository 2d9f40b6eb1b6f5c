-- The quotient that `nearest` takes is nearest, and even at a half.
use Rattle.std.proofs.Common.{◌≡◌, ℕ, ◌+◌, ◌-◌, ◌*◌, ◌%◌, ◌<◌, ◌≤◌, ltb, subst, ⊎_elim, mul-le-mul_right, arith}
use Rattle.std.proofs.lemmas.Nat.{div-add-mod', mod_below}
use Rattle.std.proofs.lemmas.Bool.{cases_lt, cases_eq, cond_both, ltb-true, ltb-false}
use Rattle.rounding.specs.Nearest.{Nearest, NearestLaw, apart}

module _ (sum parts q m : ℕ) (e : q * parts + m ≡ sum) (l : m < parts) where
  -- no multiple of the parts is nearer than both the one below and the one above
  near : (w d : ℕ) → d ≤ m → d ≤ parts - m → d ≤ apart (w * parts) sum
  near w d h k =
      ⊎_elim
      (λ a. let b : w * parts ≤ q * parts = mul-le-mul_right parts (omega arith) in omega arith)
      (λ a. let b : (q + 1) * parts ≤ w * parts = mul-le-mul_right parts a in omega arith)
      (cases_lt w (q + 1))

  down : 2 * m ≤ parts → (2 * m ≡ parts → q % 2 ≡ 0) → Nearest sum parts q
  down h v =
      record {
        nearest = λ w. let k = near w m (omega arith) (omega arith) in omega arith;
        even = λ z. v (omega arith);
      }

  up : parts ≤ 2 * m → (2 * m ≡ parts → q % 2 ≡ 1) → Nearest sum parts (q + 1)
  up h v =
      record {
        nearest = λ w. let k = near w (parts - m) (omega arith) (omega arith) in omega arith;
        even = λ z. let a : q % 2 ≡ 1 = v (omega arith) in omega arith;
      }

  half : 2 * m ≡ parts → Nearest sum parts (q + q % 2)
  half h =
      ⊎_elim
      (λ a. let b : q ≡ q + q % 2 = omega arith in subst (Nearest sum parts) b (down (omega arith) (λ z. a)))
      (λ a. let b : q + 1 ≡ q + q % 2 = omega arith in subst (Nearest sum parts) b (up (omega arith) (λ z. omega arith)))
      (cases_eq (q % 2) 0)

pub nearest_law : NearestLaw
nearest_law sum parts h =
    let e = div-add-mod' sum parts in
    let l : sum % parts < parts = mod_below sum parts h in
    cond_both (ltb (2 * (sum % parts)) parts) _ _ (Nearest sum parts)
    (λ t. let a = ltb-true _ _ t in down sum parts _ _ e l (omega arith) (λ z. absurd (omega arith)))
    (λ f.
    cond_both (ltb parts (2 * (sum % parts))) _ _ (Nearest sum parts)
    (λ t. let a = ltb-true _ _ t in up sum parts _ _ e l (omega arith) (λ z. absurd (omega arith)))
    (λ g. let a = ltb-false _ _ f in let b = ltb-false _ _ g in half sum parts _ _ e l (omega arith)))
