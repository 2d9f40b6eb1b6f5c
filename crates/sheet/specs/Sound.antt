-- The numbers of a lot that a category has taken, and of its plan.
use Rattle.std.specs.Prelude.{◌*◌, Bool, not, ◌&&◌, ◌||◌, nat_le}
use Rattle.categories.specs.declared.plan.Plan.{Plan}
use Rattle.lots.specs.Lots.{in_range}
use Rattle.lots.specs.declared.lot.Lot.{Lot}

abbrev pub sound_plan : Plan → Bool
sound_plan plan =
    nat_le 1 plan.sample && (nat_le plan.sample 48 && ((not plan.rule.average || nat_le 2 plan.sample)
    && (nat_le (plan.rule.factor * plan.sample) 18000 && (nat_le plan.rule.allowed plan.sample && nat_le plan.initial plan.sample))))

abbrev pub sound : Lot → Plan → Bool
sound lot plan = in_range lot && sound_plan plan
