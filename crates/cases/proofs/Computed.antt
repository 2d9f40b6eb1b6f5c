-- The worked cases compute; a deviation is the largest whole number by the square above it.
use Rattle.std.proofs.Common.{ℕ, ◌+◌, ◌-◌, ◌*◌, ◌<◌, ◌≤◌, refl, ⊎_elim, le_refl, mul-le-mul, arith, lit<, lit≤}
use Rattle.std.proofs.lemmas.Bool.{cases_lt}
use Rattle.tables.specs.Rows.{reached}
use Rattle.decision.specs.Verdicts.{Largest}
use Rattle.cases.specs.Worked.{WorkedCases}

largest : (n x v : ℕ) → v * v * n * (n - 1) ≤ x → x < (v + 1) * (v + 1) * n * (n - 1) → Largest n x v
largest n x v h k = record {
  holds = h;
  most = λ w l. ⊎_elim (λ a. omega arith) (λ a. absurd (let b : (v + 1) * (v + 1) * n * (n - 1) ≤ w * w * n * (n - 1) = mul-le-mul (mul-le-mul (mul-le-mul a a) (le_refl n)) (le_refl (n - 1)) in omega arith)) (cases_lt w (v + 1));
}

pub worked : WorkedCases
unfolding reached
worked = record {
  plan_12 = refl;
  mav_pound = refl;
  chuck_total = refl;
  chuck_verdict = refl;
  chuck_limit = (largest 12 _ 6721 (lit≤ tt) (lit< tt), refl);
  reasonable = refl;
  not_reasonable = refl;
  light_verdict = refl;
  light_limit = (largest 12 _ 11258 (lit≤ tt) (lit< tt), refl);
  even_verdict = refl;
  even_limit = (largest 12 _ 0 (lit≤ tt) (lit< tt), refl);
  tare_down = refl;
  tare_up = refl;
  lot_11 = refl;
  lot_12 = refl;
  lot_250 = refl;
  lot_251 = refl;
  lot_3200 = refl;
  lot_3201 = refl;
  plan_2 = refl;
  pair_within = refl;
  pair_average = refl;
  pair_over = refl;
  plan_10 = refl;
  plant_average = refl;
  plant_over = refl;
  mav_250 = refl;
  seven_short = refl;
  eight_short = refl;
  mav_1500 = refl;
  plan_c = refl;
  mav_50 = refl;
  pencil_short = refl;
  pencil_unreasonable = refl;
  pencil_verdict = refl;
}
