use Rattle.std.proofs.Common.{refl}
use Rattle.std.proofs.lemmas.Int.{to_z-of_z}
use Rattle.decision.proofs.Products.{total_fits, sample_fits, squares_fit, square_fits, times_fits, spread_fits}
use Rattle.decision.proofs.judging.Case.new.Goals as goal

pub overflow_mul-spread : goal.overflow_mul-spread
overflow_mul-spread c =
    let b = sample_fits c.requires in
    let d = squares_fit c.requires in
    simp c.from.ensures (simp to_z-of_z (times_fits c.requires))

pub overflow_sub-spread : goal.overflow_sub-spread
overflow_sub-spread c =
    let a = total_fits c.requires in
    let b = sample_fits c.requires in
    let d = squares_fit c.requires in
    let e = square_fits c.requires in
    let f = times_fits c.requires in
    simp c.from.ensures (simp to_z-of_z (spread_fits c.requires))

pub invariant_of-result : goal.invariant_of-result
invariant_of-result c = record {
  judgeable = c.requires;
  spread_is = let a = total_fits c.requires in
      let b = sample_fits c.requires in
      let d = squares_fit c.requires in
      let e = square_fits c.requires in
      let f = times_fits c.requires in
      let g = spread_fits c.requires in
      simp c.from.ensures (simp to_z-of_z refl);
}
