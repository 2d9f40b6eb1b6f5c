use Rattle.std.proofs.Common.{◌≡◌, ◌<◌, length, ℤ, pos, ◌*ℤ◌, get_or, ◌∙◌, w32, w64, SFits, arith, rules}
use borrow.Author.Differences.{ints}
use Rattle.std.proofs.lemmas.Int.{to_z-of_z}
use Rattle.decision.proofs.Averages.{unreasonable_short, short_few}
use Rattle.decision.proofs.Bounds.{mul_size}
use Rattle.decision.proofs.Steps.{sum_more}
use Rattle.decision.proofs.measuring.measure.Goals as goal

pub overflow_mul-squares : goal.overflow_mul-squares
overflow_mul-squares c =
    let x : ℤ = get_or c.args.errors.now c.loop-error.error-index (pos 0) in
    let f : SFits w32 x = search rules in
    let e : c.from-e.result ≡ x = c.from-e.ensures ∙ to_z-of_z w32 x f in
    let s = c.requires.small c.loop-error.error-index c.loop-error-test.true in
    let q = mul_size 9000 9000 x x s s in
    let g : SFits w64 x = omega (arith, ints, s) in
    let h : SFits w64 (x *ℤ x) = omega (arith, ints, q) in
    simp e (simp to_z-of_z h)

pub loop-error-preserved : goal.loop-error-preserved
loop-error-preserved c =
    let x : ℤ = get_or c.args.errors.now c.loop-error.error-index (pos 0) in
    let lt : c.loop-error.error-index < length c.args.errors.now = c.loop-error-test.true in
    let f : SFits w32 x = search rules in
    let e : c.from-e.result ≡ x = c.from-e.ensures ∙ to_z-of_z w32 x f in
    let s = c.requires.small c.loop-error.error-index lt in
    let q = mul_size 9000 9000 x x s s in
    let g : SFits w64 x = omega (arith, ints, s) in
    let h : SFits w64 (x *ℤ x) = omega (arith, ints, q) in
    simp e (simp to_z-of_z (record {
      total = omega (arith, ints, sum_more (λ e. e) c.args.errors.now c.loop-error.error-index lt);
      squares = omega (arith, ints, sum_more (λ e. e *ℤ e) c.args.errors.now c.loop-error.error-index lt);
      total_size = omega (arith, ints);
      squares_size = omega (arith, ints);
    }))

pub overflow_cast-unreasonable : goal.overflow_cast-unreasonable
overflow_cast-unreasonable c = record {
  fits = omega (arith, unreasonable_short c.args.division c.args.mavs.now c.args.errors.now, short_few c.args.errors.now);
}
