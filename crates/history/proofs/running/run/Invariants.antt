use Rattle.std.proofs.Common.{drop}
use Rattle.packages.specs.Memory.{SameMemory}
use Rattle.sheet.specs.Views.{rows_of, terms_of, Kept}
use Rattle.history.specs.Runs.{run}
use Rattle.history.proofs.Turning.{Alike}
use Rattle.history.proofs.running.run.Given as goal

abbrev pub invariant-loop-entry : goal.invariant-loop-entry
invariant-loop-entry g l =
    Kept l.initial.sheet l.sheet
    × Alike (run (terms_of g.C.Category g.K.Kind g.P.Package l.initial.sheet) (drop l.entry-index l.entries) l.sheet.phase (rows_of g.P.Package l.list))
    (run (terms_of g.C.Category g.K.Kind g.P.Package l.initial.sheet) l.entries l.initial.sheet.phase (rows_of g.P.Package l.initial.list))
    × SameMemory l.initial.list.places l.list.places
