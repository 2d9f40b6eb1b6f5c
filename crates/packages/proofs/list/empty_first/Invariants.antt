-- After so many turns as many of the first places are empty, and the rest are as at entry.
use Rattle.std.proofs.Common.{◌≡◌, map}
use Rattle.packages.specs.Readings.{emptied}
use Rattle.packages.proofs.list.empty_first.Given as goal

abbrev pub invariant-loop-place : goal.invariant-loop-place
invariant-loop-place g l = map g.P.Package.reading l.first ≡ emptied l.place-index (map g.P.Package.reading l.initial.first)
