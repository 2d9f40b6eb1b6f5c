use Rattle.std.proofs.Common.{◌≡◌, take}
use Rattle.findings.specs.Closed.{errors_of}
use Rattle.findings.proofs.finding.errors_of.Given as goal

abbrev pub invariant-loop-package : goal.invariant-loop-package
invariant-loop-package g l = l.errors.items ≡ errors_of g.P.Package l.fn.lot l.fn.average (take l.package-index l.sample)
