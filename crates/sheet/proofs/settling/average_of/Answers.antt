use Rattle.std.proofs.Common.{◌≡◌, ◌-◌, ◌^◌, ◌≤◌, map, length, arith}
use Rattle.std.proofs.lemmas.List.{length-map}
use Rattle.sheet.proofs.Tares.{average_some, average_none, average_fits}
use Rattle.sheet.proofs.settling.average_of.Goals as goal

pub overflow_cast-result : goal.overflow_cast-result
overflow_cast-result g c =
    let rows = map g.P.Package.reading c.args.places.now in
    let n : length c.args.places.now ≡ length rows = simp length-map in
    let f : c.in-Some.average ≤ 2 ^ 32 - 1 = average_fits rows c.tare_sum.result (length c.args.places.now) n c.tare_sum.ensures.is c.nearest.ensures.law c.in-Some.average c.tare_sum.ensures.bound c.in-Some.ensures.value in
    omega arith

pub returns-in-Some : goal.returns-in-Some
returns-in-Some g c =
    let rows = map g.P.Package.reading c.args.places.now in
    let n : length c.args.places.now ≡ length rows = simp length-map in
    average_some rows c.tare_sum.result (length c.args.places.now) n c.tare_sum.ensures.is c.in-Some.average c.in-Some.ensures.value

pub returns-in-None : goal.returns-in-None
returns-in-None g c =
    let rows = map g.P.Package.reading c.args.places.now in
    let n : length c.args.places.now ≡ length rows = simp length-map in
    average_none rows c.tare_sum.result (length c.args.places.now) n c.tare_sum.ensures.is c.in-None.ensures.value
