use Rattle.std.proofs.Common.{refl}
use Rattle.std.proofs.lemmas.Int.{to_z-of_z}
use Rattle.decision.proofs.Products.{total_fits, square_fits, million_fits, scaled_fits, spread_fits, weight_fits, weighted_fits}
use Rattle.decision.proofs.judging.Case.falls_below.Goals as goal

pub overflow_mul-result-2 : goal.overflow_mul-result-2
overflow_mul-result-2 c =
    let j = c.args.self.now.judgeable in
    let a = total_fits j in
    let b = square_fits j in
    let d = million_fits j in
    simp c.from.ensures (simp to_z-of_z (scaled_fits j))

pub overflow_mul-result-3 : goal.overflow_mul-result-3
overflow_mul-result-3 c =
    let j = c.args.self.now.judgeable in
    let a = weight_fits j in
    let b = spread_fits j in
    simp (c.from-weight.ensures, c.args.self.now.spread_is) (simp to_z-of_z (weighted_fits j))

pub returns : goal.returns
returns c =
    let j = c.args.self.now.judgeable in
    let a = total_fits j in
    let b = square_fits j in
    let d = million_fits j in
    let e = scaled_fits j in
    let f = weight_fits j in
    let g = spread_fits j in
    let h = weighted_fits j in
    simp (c.from.ensures, c.from-weight.ensures, c.args.self.now.spread_is) (simp to_z-of_z refl)
