-- One turn empties one place more; at the end the rest stands behind them.
use Rattle.std.proofs.Common.{arith}
use Rattle.packages.proofs.Emptied.{emptied_more, emptied_records}
use Rattle.packages.proofs.list.empty_first.Goals as goal

pub loop-place-preserved : goal.loop-place-preserved
loop-place-preserved g c = emptied_more g.P.Package.reading g.P.Package.labeled _ c.loop-place.first c.loop-place.place-index c.holding.result c.holding.ensures c.loop-place.invariant

pub returns : goal.returns
returns g c =
    let parts = c.split_at_mut-first.ensures in
    emptied_records g.P.Package.reading c.args.count c.min-count.result c.loop-place.place-index c.args.places.now _ c.loop-place.first _ c.min-count.ensures parts.front parts.back (omega arith) c.loop-place.invariant
