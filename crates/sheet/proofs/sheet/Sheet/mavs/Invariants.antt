use Rattle.std.proofs.Common.{◌≡◌, map, take}
use Rattle.sheet.specs.Closing.{package_mavs}
use Rattle.sheet.specs.Views.{terms_of}
use Rattle.sheet.proofs.sheet.Sheet.mavs.Given as goal

abbrev pub invariant-loop-held : goal.invariant-loop-held
invariant-loop-held g l = l.mavs.items ≡ take l.held-index (package_mavs (terms_of g.C.Category g.K.Kind g.P.Package l.self) (map g.P.Package.reading l.sample))
