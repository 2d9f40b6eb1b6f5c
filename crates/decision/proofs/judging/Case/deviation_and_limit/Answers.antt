use Rattle.std.proofs.Common.{◌≡◌, ℕ, ◌+◌, ◌-◌, ◌*◌, ◌/◌, ◌<◌, ◌≤◌, true, nat_abs, refl, mul-pos, arith}
use Rattle.std.proofs.lemmas.Int.{to_z-of_z}
use Rattle.decision.specs.declared.outcome.Figures.{Figures}
use Rattle.decision.specs.declared.rule.Rule.{Rule}
use Rattle.decision.specs.Verdicts.{spread, Deviates}
use Rattle.decision.proofs.Products.{spread_fits}
use Rattle.decision.proofs.Roots.{largest}
use Rattle.decision.proofs.judging.Case.deviation_and_limit.Goals as goal

-- the root of a quotient of the spread is the deviation
deviates : (rule : Rule) (f : Figures) (v : ℕ) → rule.average ≡ true → 2 ≤ f.sample → v * v ≤ 1000000 * nat_abs (spread f) / (f.sample * (f.sample - 1)) →
    1000000 * nat_abs (spread f) / (f.sample * (f.sample - 1)) < (v + 1) * (v + 1) → Deviates rule f v (v * rule.factor / 1000)
deviates rule f v a h b d = rw a (largest _ _ v (mul-pos (omega arith) (omega arith)) b d, refl)

pub returns : goal.returns
returns c =
    let j = c.args.self.now.judgeable in
    let fits = spread_fits j in
    let s = c.args.self.now.spread_is in
    rw c.from.ensures
    (deviates c.args.self.now.rule c.args.self.now.figures _ c.if-not-self.false (j.average c.if-not-self.false)
    (simp to_z-of_z at (simp (s, c.from-n.ensures) at c.isqrt-deviation.ensures.square_le)) (simp to_z-of_z at (simp (s, c.from-n.ensures) at c.isqrt-deviation.ensures.next_square_gt)))
