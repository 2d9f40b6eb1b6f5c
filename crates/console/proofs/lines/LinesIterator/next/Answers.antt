use Rattle.std.proofs.Common.{◌≡◌, ◌<◌, ◌∷◌, length, drop, arith, ap, sym, ◌∙◌}
use Rattle.std.proofs.lemmas.Bool.Decides.{nat_tests}
use Rattle.words.specs.Lines.{lines}
use Rattle.console.proofs.Turns.{none_behind, next_line}
use Rattle.console.proofs.lines.LinesIterator.next.Goals as goal
use Rattle.console.proofs.lines.LinesIterator.next.Goals.{in-Some, in-None}

pub returns-clause-steps : goal.returns-clause-steps
returns-clause-steps c =
    let some : 0 < length c.args.self.now.0.now = grind (arith, nat_tests) in
    let behind : c.match-split_first.self.now ≡ drop 1 c.split_at.result.1.now =
    elim c.match-split_first.branch [
      | in-Some w ↦ ap (λ b. b.now) w.self-is ∙ sym (ap (drop 1) w.in-Some.ensures.cases.0)
      | in-None w ↦ ap (λ b. b.now) w.self-is ∙ none_behind _ w.in-None.ensures.cases
    ]
    in
    next_line c.args.self.now.0.now c.match-split_first.self.now c.line_length.result some c.line_length.ensures.is (behind ∙ ap (drop 1) c.split_at.ensures.back)
    ∙ ap (λ l. l ∷ lines c.match-split_first.self.now) (sym c.split_at.ensures.front)

pub returns-clause-goes : goal.returns-clause-goes
returns-clause-goes c =
    let fewer = ap length (returns-clause-steps c) in
    record { on = λ _. (tt, tt, omega (arith, fewer)); keeps = tt; rests = λ _. tt }
