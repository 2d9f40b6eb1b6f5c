use Rattle.std.proofs.Common.{◌<◌, map, length, arith}
use Rattle.std.proofs.lemmas.List.{length-map}
use Rattle.std.proofs.lemmas.List.Sums.{sum_by_more}
use Rattle.packages.specs.Readings.{tare_of}
use Rattle.sheet.proofs.Places.{read_at}
use Rattle.sheet.proofs.settling.tare_sum.Goals as goal

pub loop-held-preserved : goal.loop-held-preserved
loop-held-preserved g c =
    let read = g.P.Package.reading in
    let held = c.held-item.result in
    let rows = map read c.args.places.now in
    let l : c.loop-held.held-index < length rows = simp length-map (omega arith) in
    let more = sum_by_more tare_of rows c.loop-held.held-index (read held) l in
    let at = read_at read c.args.places.now c.loop-held.held-index held (read held) c.loop-held-test.true c.held-item.is in
    record { so_far = cc; bound = omega arith }
