use Rattle.std.proofs.Common.{Ok, Err}
use Rattle.sheet.specs.Views.{rows_of}
use Rattle.console.proofs.Follow.{started}
use Rattle.console.proofs.handling.begin.Goals as goal

pub returns-in-Ok-clause-follows : goal.returns-in-Ok-clause-follows
returns-in-Ok-clause-follows g c =
    started g.P.Package c.in-Lot.category c.in-Lot.kind c.in-Lot.lot c.args.list.now (rows_of g.P.Package c.start.new.list) c.args.command c.in-Lot.is (Ok c.in-Ok.sheet) c.in-Ok.ensures.starts

pub returns-in-Err-clause-follows : goal.returns-in-Err-clause-follows
returns-in-Err-clause-follows g c =
    let e = c.into.ensures in
    rw e
    (started g.P.Package c.in-Lot.category c.in-Lot.kind c.in-Lot.lot c.args.list.now (rows_of g.P.Package c.start.new.list) c.args.command c.in-Lot.is (Err c.in-Err.refusal) c.in-Err.ensures.starts)
