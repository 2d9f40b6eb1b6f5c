use Rattle.std.proofs.Common.{◌≡◌, take}
use Rattle.findings.specs.Closed.{mavs_of}
use Rattle.findings.proofs.finding.mavs_of.Given as goal

abbrev pub invariant-loop-label : goal.invariant-loop-label
invariant-loop-label l = l.mavs.items ≡ mavs_of l.fn.kind l.fn.division (take l.label-index l.labels)
