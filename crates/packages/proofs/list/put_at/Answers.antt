-- A write within the list goes through the map.
use Rattle.std.proofs.lemmas.List.{map-set}
use Rattle.packages.proofs.list.put_at.Goals as goal

pub returns-then-place-places : goal.returns-then-place-places
returns-then-place-places g c = cc (map-set g.P.Package.reading c.args.places.now c.args.place c.holding.result, c.holding.ensures)
