use Rattle.std.proofs.Common.{length, Ok, Err}
use Rattle.lots.specs.Lots.{planned}
use Rattle.sheet.specs.Starts.{starting}
use Rattle.sheet.specs.Views.{rows_of, terms_of}
use Rattle.history.specs.Setups.{setup_of}
use Rattle.history.proofs.Contesting.{refused_ends, closed_ends, open_ends, terms_new, start_length}
use Rattle.history.proofs.contest.start_and_run.Goals as goal

pub returns-in-Err-clause-ends : goal.returns-in-Err-clause-ends
returns-in-Err-clause-ends g c =
    refused_ends (setup_of g.C.Category g.K.Kind g.P.Package c.args.start c.args.entries.now c.args.list.now) c.args.start.category c.args.start.kind (starting (planned (g.C.Category.meaning c.args.start.category) (g.K.Kind.meaning c.args.start.kind) c.args.start.lot) (length (rows_of g.P.Package c.args.list.now))) c.in-Err.refusal (rows_of g.P.Package c.start.new.list)
    (start_length g.P.Package c.args.start.category c.args.start.kind c.args.start.lot (planned (g.C.Category.meaning c.args.start.category) (g.K.Kind.meaning c.args.start.kind) c.args.start.lot) c.args.list.now (Err c.in-Err.refusal) (rows_of g.P.Package c.args.list.now) (rows_of g.P.Package c.start.new.list) c.in-Err.ensures.starts)

pub returns-in-Ok-run-clause-ends : goal.returns-in-Ok-run-clause-ends
returns-in-Ok-run-clause-ends g c =
    closed_ends (setup_of g.C.Category g.K.Kind g.P.Package c.args.start c.args.entries.now c.args.list.now) c.args.start.category c.args.start.kind c.in-Ok.sheet (terms_of g.C.Category g.K.Kind g.P.Package c.in-Ok.sheet)
    (rows_of g.P.Package c.start.new.list) (rows_of g.P.Package c.run.new.list) (starting (planned (g.C.Category.meaning c.args.start.category) (g.K.Kind.meaning c.args.start.kind) c.args.start.lot) (length (rows_of g.P.Package c.args.list.now))) c.in-Ok-run.record
    (terms_new g.C.Category g.K.Kind g.P.Package c.in-Ok.sheet c.args.start c.args.entries.now c.args.list.now)
    (start_length g.P.Package c.args.start.category c.args.start.kind c.args.start.lot (planned (g.C.Category.meaning c.args.start.category) (g.K.Kind.meaning c.args.start.kind) c.args.start.lot) c.args.list.now (Ok c.in-Ok.sheet) (rows_of g.P.Package c.args.list.now) (rows_of g.P.Package c.start.new.list) c.in-Ok.ensures.starts)
    c.in-Ok-run.ensures.runs

pub returns-in-Err-run-clause-ends : goal.returns-in-Err-run-clause-ends
returns-in-Err-run-clause-ends g c =
    open_ends (setup_of g.C.Category g.K.Kind g.P.Package c.args.start c.args.entries.now c.args.list.now) c.args.start.category c.args.start.kind c.in-Ok.sheet (terms_of g.C.Category g.K.Kind g.P.Package c.in-Ok.sheet)
    (rows_of g.P.Package c.start.new.list) (rows_of g.P.Package c.run.new.list) (starting (planned (g.C.Category.meaning c.args.start.category) (g.K.Kind.meaning c.args.start.kind) c.args.start.lot) (length (rows_of g.P.Package c.args.list.now))) c.in-Err-run.open
    (terms_new g.C.Category g.K.Kind g.P.Package c.in-Ok.sheet c.args.start c.args.entries.now c.args.list.now)
    (start_length g.P.Package c.args.start.category c.args.start.kind c.args.start.lot (planned (g.C.Category.meaning c.args.start.category) (g.K.Kind.meaning c.args.start.kind) c.args.start.lot) c.args.list.now (Ok c.in-Ok.sheet) (rows_of g.P.Package c.args.list.now) (rows_of g.P.Package c.start.new.list) c.in-Ok.ensures.starts)
    c.in-Err-run.ensures.runs
