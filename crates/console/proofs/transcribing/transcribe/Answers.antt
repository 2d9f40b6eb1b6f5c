use Rattle.std.proofs.Common.{◌≡◌, ◌+◌, vec_items, inl, refl, ◌∙◌, subst, arith}
use Rattle.std.specs.Iterator.Adapters.{enumerate_source, enumerate_count}
use Rattle.sheet.specs.Views.{rows_of}
use Rattle.words.specs.Lines.{lines}
use Rattle.console.specs.Effects.{idle, standing}
use Rattle.console.specs.Transcripts.{Told, said, Answers}
use Rattle.console.proofs.Turns.{few_lines, short, turn, done}
use Rattle.console.proofs.transcribing.transcribe.Goals as goal

pub loop-at-init-derived : goal.loop-at-init-derived
loop-at-init-derived g c =
    rw (c.into_iter-at-iterator.ensures.into_iter_gives, c.enumerate-at-items.ensures.source, c.enumerate-at-items.ensures.count)
    ((tt, tt, inl (omega (arith, few_lines c.args.text.now))), tt)

pub loop-at-preserved : goal.loop-at-preserved
loop-at-preserved g c =
    let labeled = g.P.Package.labeled in
    let st = standing labeled c.loop-at.session in
    let st₁ = standing labeled c.take_line-next.result.0 in
    let rows = rows_of g.P.Package c.loop-at.list in
    let rows₁ = rows_of g.P.Package c.take_line-next.new.list in
    let k = enumerate_count c.loop-at.at-iterator in
    let steps = c.in-Some.ensures.steps in
    let next : enumerate_count c.next.new.self ≡ k + 1 = steps.2 in
    let answers = subst (λ r. Answers (said labeled (k + 1) c.in-Some.line.now st rows) st rows c.loop-at.out r c.take_line-next.new.out st₁ rows₁) c.in-Ok.is
    (subst (λ n. Answers (said labeled (n + 1) c.in-Some.line.now st rows) st rows c.loop-at.out c.take_line-next.result.1 c.take_line-next.new.out st₁ rows₁) steps.1 c.take_line-next.ensures.answers)
    in
    record {
      room = omega (arith, c.take_line-next.auto.out, c.loop-at.invariant.room);
      told = λ rest go.
          turn labeled st rows k c.in-Ok.n c.loop-at.out c.take_line-next.new.out (vec_items c.loop-at.all) _ c.in_default-extend_from_slice.ensures.items
          (λ out. Told labeled 1 (lines c.args.text.now) idle (rows_of g.P.Package c.args.list.now) out) _ _ c.in-Some.line.now steps.0 c.loop-at.invariant.told st₁ rows₁ answers
          rest (subst (λ n. Told labeled (n + 1) (lines (enumerate_source c.next.new.self).0.now) st₁ rows₁ rest) next go);
      memory = record { lent = c.take_line-next.ensures.memory.lent ∙ c.loop-at.invariant.memory.lent; long = c.take_line-next.ensures.memory.long ∙ c.loop-at.invariant.memory.long };
    }

pub returns-clause-transcript : goal.returns-clause-transcript
returns-clause-transcript g c =
    let labeled = g.P.Package.labeled in
    let text = c.args.text.now in
    let rows₀ = rows_of g.P.Package c.args.list.now in
    short labeled text _ rows₀ c.if-text-gt65536.false
    (done labeled (standing labeled c.loop-at.session) (rows_of g.P.Package c.loop-at.list) (enumerate_count c.loop-at.at-iterator) c.in-Ok-finish.n c.loop-at.out c.finish.new.out (vec_items c.loop-at.all) _
    c.in_ok-extend_from_slice-in-Ok-finish.ensures.items (λ out. Told labeled 1 (lines text) idle rows₀ out) _ c.in-None.ensures.steps.0.0 c.loop-at.invariant.told c.loop-at.session refl c.in-Ok-finish.ensures.1)
