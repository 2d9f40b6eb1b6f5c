use Rattle.std.proofs.Common.{◌≡◌, ℕ, List, length, ℤ, pos, None, Ok, arith, sym, ap, ◌∙◌, subst, w64, SFits, rules}
use lib.Signed.{le_z}
use Rattle.std.proofs.lemmas.Int.{to_z-of_z}
use Rattle.decision.proofs.Ranges.{accepted}
use Rattle.decision.specs.declared.rule.Rule.{Rule}
use Rattle.decision.specs.Answer.{refusal, Answers}
use Rattle.comparison.proofs.Statements.{stated, rule_for_two}
use Rattle.comparison.proofs.comparing.compare.Goals as goal

-- two accepted lists are as long as the list of MAVs
as_long : (mavs : List (ℕ × ℕ)) (rule : Rule) (es ds : List ℤ) → refusal (length mavs) rule es ≡ None → refusal (length mavs) rule ds ≡ None → length ds ≡ length es
as_long mavs rule es ds a b = sym (accepted (length mavs) rule ds b).beside ∙ (accepted (length mavs) rule es a).beside

pub invariant_of-pair : goal.invariant_of-pair
invariant_of-pair c =
    let answered = Answers c.args.division c.args.mavs.now c.args.rule in
    let one : c.decide.result ≡ Ok c.in_ok-one.one = grind arith in
    let two : c.decide-2.result ≡ Ok c.in_ok-two.two = grind arith in
    let a = subst (answered c.args.first.now) one c.decide.ensures in
    let b = subst (answered c.args.second.now) two c.decide-2.ensures in
    record { same_length = as_long c.args.mavs.now c.args.rule c.args.first.now c.args.second.now a.0 b.0 }

pub returns : goal.returns
returns c =
    let answered = Answers c.args.division c.args.mavs.now c.args.rule in
    let one : c.decide.result ≡ Ok c.in_ok-one.one = grind arith in
    let two : c.decide-2.result ≡ Ok c.in_ok-two.two = grind arith in
    let a = subst (answered c.args.first.now) one c.decide.ensures in
    let b = subst (answered c.args.second.now) two c.decide-2.ensures in
    let fits : SFits w64 c.in_ok-one.one.figures.total = search rules in
    let sum = to_z-of_z w64 c.in_ok-one.one.figures.total fits ∙ ap (λ f. f.total) a.1.concluded.figures in
    record {
      accepted = (a.0, b.0);
      first = a.1;
      second = b.1;
      stated = stated c.args.first.now c.args.second.now _ (as_long c.args.mavs.now c.args.rule c.args.first.now c.args.second.now a.0 b.0) c.first_lower-lower.ensures c.first_crossed-crossed.ensures (ap (le_z (pos 0)) sum);
      rule_for_two = rule_for_two c.args.first.now c.args.second.now c.args.division c.args.mavs.now c.args.rule _ _ a.1 b.1;
    }
