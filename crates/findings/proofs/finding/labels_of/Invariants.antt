use Rattle.std.proofs.Common.{◌≡◌, take}
use Rattle.findings.specs.Closed.{labels_of}
use Rattle.findings.proofs.finding.labels_of.Given as goal

abbrev pub invariant-loop-package : goal.invariant-loop-package
invariant-loop-package g l = l.labels.items ≡ labels_of g.P.Package l.fn.lot (take l.package-index l.sample)
