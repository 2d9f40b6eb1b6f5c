use Rattle.std.proofs.Common.{Ok, sym, ap, ◌∙◌, subst}
use Rattle.sheet.specs.Views.{rows_of}
use Rattle.words.specs.Lines.{words}
use Rattle.console.specs.Effects.{effect, standing}
use Rattle.console.specs.Transcripts.{first_column, of_reading, Answers}
use Rattle.console.proofs.Spoken.{spoken}
use Rattle.console.proofs.telling.take_line.Goals as goal

pub returns-in-Ok-Some-clause-answers : goal.returns-in-Ok-Some-clause-answers
returns-in-Ok-Some-clause-answers g c =
    let labeled = g.P.Package.labeled in
    let st = standing labeled c.args.session in
    let st₁ = standing labeled c.handle-session.result.0 in
    let rows = rows_of g.P.Package c.args.list.now in
    let rows₁ = rows_of g.P.Package c.handle-session.new.list in
    let column = first_column (words 1 c.args.text.now) in
    subst (λ x. Answers (of_reading labeled c.args.line column st rows x) st rows c.args.out.now c.tell.result c.tell.new.out st₁ rows₁) (sym (ap Ok c.in-Ok-Some.field-0-is) ∙ c.in-Ok-Some.ensures)
    (spoken c.args.line column st st₁ rows rows₁ c.args.out.now c.tell.new.out (effect labeled st rows c.in-Ok-Some.command) c.handle-session.result.1 c.tell.result c.if-out-lt256.false
    c.handle-session.ensures.follows (rw c.first_column.ensures at c.tell.ensures))
