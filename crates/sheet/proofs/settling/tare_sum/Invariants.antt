use Rattle.std.proofs.Common.{◌≡◌, ◌-◌, ◌*◌, ◌^◌, ◌≤◌, map, take}
use Rattle.sheet.specs.Tare.{tare_sum}
use Rattle.sheet.proofs.settling.tare_sum.Given as goal

abbrev pub invariant-loop-held : goal.invariant-loop-held
invariant-loop-held g l = record {
  so_far : l.sum ≡ tare_sum (take l.held-index (map g.P.Package.reading l.places));
  bound : l.sum ≤ (2 ^ 32 - 1) * l.held-index;
}
