use Rattle.std.proofs.Common.{◌≡◌, ◌*◌, ◌≤◌, take, nat_abs}
use Rattle.decision.specs.Sample.{total, squares}
use Rattle.decision.proofs.measuring.measure.Given as goal

abbrev pub invariant-loop-error : goal.invariant-loop-error
invariant-loop-error l = record {
  total : l.total ≡ total (take l.error-index l.errors);
  squares : l.squares ≡ squares (take l.error-index l.errors);
  total_size : nat_abs l.total ≤ 9000 * l.error-index;
  squares_size : nat_abs l.squares ≤ 81000000 * l.error-index;
}
