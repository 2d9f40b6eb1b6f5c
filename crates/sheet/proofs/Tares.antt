-- The tares of the first places, one place more, and their average.
use Rattle.std.proofs.Common.{◌≡◌, ℕ, zero, suc, ◌+◌, ◌-◌, ◌*◌, ◌^◌, ◌≤◌, Bool, true, false, cond, eqb, List, length, Some, None, sym, refl, ap, ◌∙◌, ⊎_elim, mul-le-mul_right, arith}
use Rattle.std.proofs.lemmas.List.{take_all}
use Rattle.std.proofs.lemmas.Bool.{cases_lt, eqb-false, cond-false}
use Rattle.std.proofs.lemmas.Bool.Decides.{nat_tests}
use Rattle.packages.specs.declared.reading.Reading.{Reading}
use Rattle.rounding.specs.Nearest.{nearest, NearestLaw}
use Rattle.sheet.specs.Tare.{tare_sum, average_of}

-- an average is no more than the largest
pub nearest_most : NearestLaw → (sum parts most : ℕ) → 1 ≤ parts → sum ≤ most * parts → nearest sum parts ≤ most
nearest_most law sum parts most h k =
    let n = (law sum parts h).nearest most in
    ⊎_elim
    (λ above. let b : (most + 1) * parts ≤ nearest sum parts * parts = mul-le-mul_right parts (omega arith) in absurd (omega arith))
    (λ within. within)
    (cases_lt most (nearest sum parts))

some_is : (b : Bool) (a v : ℕ) → Some a ≡ cond b None (Some v) → (b ≡ false) × (a ≡ v)
some_is true a v e = let no : ◌≡◌ {A = ℕ} 0 1 = cc in absurd (omega arith)
some_is false a v e = (refl, cc)

above_zero : (n : ℕ) → (n ≡ 0 → ⊥) → 1 ≤ n
above_zero zero h = absurd (h refl)
above_zero (suc n) h = omega arith

-- what the code reads of the average, over the sum that it is passed
module _ (rows : List Reading) (sum total : ℕ) (n : total ≡ length rows) (q : sum ≡ tare_sum rows) where
  average : average_of total rows ≡ cond (eqb total 0) 0 (nearest sum total)
  average = ap (λ (xs : List Reading). cond (eqb total 0) 0 (nearest (tare_sum xs) total)) (take_all total rows (omega arith)) ∙ ap (λ (s : ℕ). cond (eqb total 0) 0 (nearest s total)) (sym q)

  pub average_some : (a : ℕ) → Some a ≡ cond (eqb total 0) None (Some (nearest sum total)) → a ≡ average_of total rows
  average_some a e =
      let k = some_is (eqb total 0) a (nearest sum total) e in
      k.1 ∙ sym (average ∙ cond-false (eqb total 0) 0 (nearest sum total) k.0)

  pub average_none : None ≡ cond (eqb total 0) None (Some (nearest sum total)) → 0 ≡ average_of total rows
  average_none e = let none : 0 ≡ cond (eqb total 0) 0 (nearest sum total) = grind (arith, nat_tests) in none ∙ sym average

  pub average_fits : NearestLaw → (a : ℕ) → sum ≤ (2 ^ 32 - 1) * total → Some a ≡ cond (eqb total 0) None (Some (nearest sum total)) → a ≤ 2 ^ 32 - 1
  average_fits law a h e =
      let k = some_is (eqb total 0) a (nearest sum total) e in
      let some = above_zero total (eqb-false total 0 k.0) in
      let m : nearest sum total ≤ 2 ^ 32 - 1 = nearest_most law sum total (2 ^ 32 - 1) some h in
      omega arith
