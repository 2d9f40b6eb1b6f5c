use Rattle.std.proofs.Common.{sym, ◌∙◌, subst}
use Rattle.writing.specs.Writes.{Writes}
use Rattle.writing.proofs.Joins.{reads, alone}
use Rattle.writing.proofs.commanding.write_command.Goals as goal

pub returns-clause-back : goal.returns-clause-back
returns-clause-back c =
    reads c.args.command (sym c.is_writable.ensures ∙ c.if-not-is_writable.false) c.args.out.now c.print.new.out c.print.result
    (subst (λ l. Writes 64 l c.args.out.now c.print.result c.print.new.out) c.page_of.ensures c.print.ensures)

pub returns-clause-apart : goal.returns-clause-apart
returns-clause-apart c =
    alone c.args.command (sym c.is_writable.ensures ∙ c.if-not-is_writable.false) c.args.out.now c.print.new.out c.print.result
    (subst (λ l. Writes 64 l c.args.out.now c.print.result c.print.new.out) c.page_of.ensures c.print.ensures)
