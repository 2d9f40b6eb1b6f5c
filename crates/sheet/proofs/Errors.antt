-- The package errors of a sample.
use Rattle.std.proofs.Common.{leb, ◌≡◌, ℕ, ◌*◌, ◌/◌, ◌^◌, ◌<◌, ◌≤◌, true, false, List, length, get_or, ℤ, pos, ◌+ℤ◌, ◌-ℤ◌, nat_abs, is_some, sym, ap, ◌∙◌, subst, mul-le-mul, arith, w32, w64, to_z, of_z}
use borrow.Author.Differences.{ints}
use Rattle.std.proofs.lemmas.Bool.{leb-true, leb-false}
use Rattle.decision.specs.Answer.{outside}
use Rattle.decision.proofs.Ranges.{outside_found}
use Rattle.lots.specs.declared.lot.Lot.{Lot}
use Rattle.packages.specs.declared.reading.Reading.{Reading}
use Rattle.packages.specs.Readings.{gross_of}
use Rattle.sheet.specs.Closing.{lot_error}
use Rattle.sheet.specs.Tare.{label_by}

-- an error, as the code has it
pub error_fits : (g l a m : ℕ) → g < 2 ^ 32 → l < 2 ^ 32 → a < 2 ^ 32 → m < 2 ^ 60 →
    to_z w64 (of_z w64 (to_z w64 (of_z w64 (to_z w64 (of_z w64 (to_z w64 (of_z w64 (pos g)) -ℤ to_z w64 (of_z w64 (pos l)))) -ℤ to_z w64 (of_z w64 (pos a)))) +ℤ to_z w64 m)) ≡ pos g -ℤ pos l -ℤ pos a +ℤ pos m
error_fits g l a m hg hl ha hm = omega (arith, ints)

pub moisture_fits : (l a : ℕ) → l < 2 ^ 32 → a < 2 ^ 32 → l * a / 1000 < 2 ^ 60
moisture_fits l a h k =
    let hl : l ≤ 2 ^ 32 = omega arith in
    let ha : a ≤ 2 ^ 32 = omega arith in
    let p : l * a ≤ 2 ^ 32 * 2 ^ 32 = mul-le-mul hl ha in
    omega arith

pub error_is : (lot : Lot) (average : ℕ) (r : Reading) (g l l₁ w₁ : ℕ) (zg zl za : ℤ) → g ≡ gross_of r → l ≡ label_by lot.label r →
    zg ≡ pos g → zl ≡ pos l → za ≡ pos average → l₁ ≡ l → w₁ ≡ lot.allowance → g < 2 ^ 32 → l < 2 ^ 32 → average < 2 ^ 32 → lot.allowance < 2 ^ 32 →
    to_z w64 (of_z w64 (to_z w64 (of_z w64 (to_z w64 (of_z w64 (to_z w64 (of_z w64 zg) -ℤ to_z w64 (of_z w64 zl))) -ℤ to_z w64 (of_z w64 za))) +ℤ to_z w64 (l₁ * w₁ / 1000))) ≡ lot_error lot average r
error_is lot average r g l l₁ w₁ zg zl za eg el ezg ezl eza el₁ ew₁ hg hl ha hw =
    let e = error_fits g l average (l * lot.allowance / 1000) hg hl ha (moisture_fits l lot.allowance hl hw) in
    let m : l₁ * w₁ / 1000 ≡ l * lot.allowance / 1000 = cc in
    let same : pos g -ℤ pos l -ℤ pos average +ℤ pos (l * lot.allowance / 1000) ≡ lot_error lot average r = cc in
    simp (ezg, ezl, eza, m) e ∙ same

pub narrowed : (z e : ℤ) → z ≡ e → nat_abs z ≤ 8000 → to_z w32 (of_z w32 (to_z w64 (of_z w64 z))) ≡ e
narrowed z e s h = let same : to_z w32 (of_z w32 (to_z w64 (of_z w64 z))) ≡ z = omega (arith, ints) in same ∙ s

-- an error that the code finds too far, or not, by the number that it passes on
pub too_far : (z y : ℤ) → y ≡ z → false ≡ leb (nat_abs y) 8000 → 8000 < nat_abs z
too_far z y e h = leb-false (nat_abs z) 8000 (ap (λ (x : ℤ). leb (nat_abs x) 8000) (sym e) ∙ sym h)

pub within : (z y : ℤ) → y ≡ z → true ≡ leb (nat_abs y) 8000 → nat_abs z ≤ 8000
within z y e h = leb-true (nat_abs z) 8000 (ap (λ (x : ℤ). leb (nat_abs x) 8000) (sym e) ∙ sym h)

-- the error i is the first outside
pub far : (es : List ℤ) (i : ℕ) (z : ℤ) → i < length es → z ≡ get_or es i (pos 0) → ((k : ℕ) → k < i → nat_abs (get_or es k (pos 0)) ≤ 8000) → 8000 < nat_abs z → is_some (outside es) ≡ true
far es i z l e b h = ap is_some (outside_found es i l b (subst (λ (y : ℤ). 8000 < nat_abs y) e h))

pub near : (es : List ℤ) (i : ℕ) (z : ℤ) → z ≡ get_or es i (pos 0) → nat_abs z ≤ 8000 → nat_abs (get_or es i (pos 0)) ≤ 8000
near es i z e h = subst (λ (y : ℤ). nat_abs y ≤ 8000) e h
