use Rattle.std.proofs.Common.{◌≡◌, ℕ, ◌<◌, ◌≤◌, map, get_or, take, pos, nat_abs}
use Rattle.sheet.specs.Closing.{lot_error}
use Rattle.sheet.proofs.closing.errors.Given as goal

abbrev pub invariant-loop-held : goal.invariant-loop-held
invariant-loop-held g l = record {
  found : l.errors.items ≡ take l.held-index (map (lot_error l.lot l.average) (map g.P.Package.reading l.sample));
  near : (k : ℕ) → k < l.held-index → nat_abs (get_or (map (lot_error l.lot l.average) (map g.P.Package.reading l.sample)) k (pos 0)) ≤ 8000;
}
