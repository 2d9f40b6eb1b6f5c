use Rattle.sheet.specs.Views.{rows_of}
use Rattle.console.proofs.Follow.{called}
use Rattle.console.proofs.handling.advance.Goals as goal

pub returns-in-Call-clause-follows : goal.returns-in-Call-clause-follows
returns-in-Call-clause-follows g c =
    rw (c.reply_of.ensures, c.in-Call.is) (called g.P.Package.labeled c.args.sheet (rows_of g.P.Package c.args.list.now) (rows_of g.P.Package c.turn.new.list) c.in-Call.call c.turn.result c.turn.ensures.turned)
