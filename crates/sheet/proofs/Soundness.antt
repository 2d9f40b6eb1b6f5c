-- What is known of a sound lot and its plan.
use Rattle.std.proofs.Common.{◌≡◌, ℕ, ◌*◌, ◌≤◌, Bool, true, false, cond, not, ◌||◌, leb, arith}
use Rattle.std.proofs.lemmas.Bool.{and_parts, leb-true}
use Rattle.categories.specs.declared.plan.Plan.{Plan}
use Rattle.lots.specs.Lots.{label_in_range}
use Rattle.lots.specs.declared.lot.Lot.{Lot}
use Rattle.sheet.specs.Sound.{sound}

pub record Facts (lot : Lot) (plan : Plan) : Type 0 where
  pub division_some : 1 ≤ lot.division
  pub division_few : lot.division ≤ 100000
  pub labeled : label_in_range lot.label ≡ true
  pub allowance : lot.allowance ≤ 100
  pub some : 1 ≤ plan.sample
  pub few : plan.sample ≤ 48
  pub average : plan.rule.average ≡ true → 2 ≤ plan.sample
  pub factor : plan.rule.factor * plan.sample ≤ 18000
  pub allowed : plan.rule.allowed ≤ plan.sample
  pub initial : plan.initial ≤ plan.sample

average_two : (b : Bool) (n : ℕ) → (not b || leb 2 n) ≡ true → b ≡ true → 2 ≤ n
average_two true n h e = leb-true 2 n h
average_two false n h e = cc

pub facts : (lot : Lot) (plan : Plan) → sound lot plan ≡ true → Facts lot plan
facts lot plan s =
    let both = and_parts _ _ s in
    let l1 = and_parts (leb 1 lot.size) _ both.0 in
    let l2 = and_parts (leb lot.size 1000000) _ l1.1 in
    let l3 = and_parts _ _ l2.1 in
    let l4 = and_parts _ _ l3.1 in
    let l5 = and_parts _ _ l4.1 in
    let p1 = and_parts _ _ both.1 in
    let p2 = and_parts _ _ p1.1 in
    let p3 = and_parts _ _ p2.1 in
    let p4 = and_parts _ _ p3.1 in
    let p5 = and_parts _ (leb plan.initial plan.sample) p4.1 in
    record {
      division_some = leb-true _ _ l3.0;
      division_few = leb-true _ _ l4.0;
      labeled = l5.0;
      allowance = leb-true _ _ l5.1;
      some = leb-true _ _ p1.0;
      few = leb-true _ _ p2.0;
      average = average_two plan.rule.average plan.sample p3.0;
      factor = leb-true _ _ p4.0;
      allowed = leb-true _ _ p5.0;
      initial = leb-true _ _ p5.1;
    }

-- no more are opened first than are drawn
pub initial_most : (lot : Lot) (plan : Plan) (weighed : Bool) (initial : ℕ) → sound lot plan ≡ true → initial ≡ cond weighed plan.initial 0 → initial ≤ plan.sample
initial_most lot plan true initial h e = omega (arith, (facts lot plan h).initial)
initial_most lot plan false initial h e = omega arith
