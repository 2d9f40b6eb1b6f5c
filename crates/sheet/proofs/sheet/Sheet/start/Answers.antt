use Rattle.std.proofs.Common.{sym}
use Rattle.sheet.proofs.Taken.{planned_sound}
use Rattle.sheet.proofs.sheet.Sheet.start.Goals as goal

pub invariant_of-result : goal.invariant_of-result
invariant_of-result g c =
    record { sound = planned_sound (g.C.Category.meaning c.args.category) (g.K.Kind.meaning c.args.kind) c.args.lot c.in_ok-plan.plan (g.met.C.Category.bounds c.args.category) (sym c.in_ok-plan.ensures) }
