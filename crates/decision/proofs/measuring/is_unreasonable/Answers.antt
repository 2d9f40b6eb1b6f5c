use Rattle.std.proofs.Common.{◌≡◌, ℕ, ◌*◌, ◌^◌, ◌<◌, ◌≤◌, ℤ, pos, ◌-ℤ◌, ◌*ℤ◌, nat_abs, refl, arith, lit<, SFits, rules}
use lib.IntN.{+ℤ_idl}
use mir.Syntax.{w128}
use borrow.Author.Differences.{ints}
use Rattle.std.proofs.lemmas.Int.{to_z-of_z}
use Rattle.decision.proofs.Bounds.{mul_size, fits}
use Rattle.decision.proofs.measuring.is_unreasonable.Goals as goal

-- each step of -e * d * b fits
record Fit (e : ℤ) (d b : ℕ) : Type 0 where
  negated : SFits w128 (pos 0 -ℤ e)
  scaled : SFits w128 ((pos 0 -ℤ e) *ℤ pos d)
  crossed : SFits w128 ((pos 0 -ℤ e) *ℤ pos d *ℤ pos b)

fit : (e : ℤ) (d b : ℕ) → nat_abs e ≤ 2 ^ 31 → d < 2 ^ 32 → b < 2 ^ 16 → Fit e d b
fit e d b h k l =
    let n : nat_abs (pos 0 -ℤ e) ≤ 2 ^ 31 = omega (arith, ints) in
    let s = mul_size (2 ^ 31) (2 ^ 32) (pos 0 -ℤ e) (pos d) n (omega arith) in
    let c = mul_size (2 ^ 31 * 2 ^ 32) (2 ^ 16) ((pos 0 -ℤ e) *ℤ pos d) (pos b) s (omega arith) in
    record {
      negated = fits w128 (2 ^ 31) _ n (lit< tt);
      scaled = fits w128 (2 ^ 31 * 2 ^ 32) _ s (lit< tt);
      crossed = fits w128 (2 ^ 31 * 2 ^ 32 * 2 ^ 16) _ c (lit< tt);
    }

pub overflow_mul-result-2 : goal.overflow_mul-result-2
overflow_mul-result-2 c =
    let e : c.from.result ≡ c.args.error = search rules in
    let w = fit c.args.error c.args.division c.args.mav.1 (omega (arith, ints)) (omega arith) (omega arith) in
    let f : SFits w128 c.args.error = omega (arith, ints) in
    let g : SFits w128 (pos c.args.division) = omega (arith, ints) in
    let h : SFits w128 (pos c.args.mav.1) = omega (arith, ints) in
    let i = w.negated in
    let j = w.scaled in
    simp (e, c.from-2.ensures, c.from-3.ensures) (simp to_z-of_z w.crossed)

pub returns : goal.returns
returns c =
    let e : c.from.result ≡ c.args.error = search rules in
    let w = fit c.args.error c.args.division c.args.mav.1 (omega (arith, ints)) (omega arith) (omega arith) in
    let f : SFits w128 c.args.error = omega (arith, ints) in
    let g : SFits w128 (pos c.args.division) = omega (arith, ints) in
    let h : SFits w128 (pos c.args.mav.1) = omega (arith, ints) in
    let m : SFits w128 (pos c.args.mav.0) = omega (arith, ints) in
    let i = w.negated in
    let j = w.scaled in
    let k = w.crossed in
    simp (e, c.from-2.ensures, c.from-3.ensures, c.from-4.ensures) (simp to_z-of_z (simp +ℤ_idl refl))
