-- A lot that a category takes is sound.
use Rattle.std.proofs.Common.{◌≡◌, ℕ, ◌≤◌, Bool, true, false, cond, not, ◌&&◌, ◌||◌, leb, List, Some, None, Ok, Err, Option, Result, refl, subst}
use Rattle.std.proofs.lemmas.Bool.{le-leb}
use Rattle.categories.specs.declared.plan.Plan.{Plan}
use Rattle.categories.specs.Meaning.{Sampling, Sound, InBounds}
use Rattle.kinds.specs.Meaning.{Meaning}
use Rattle.lots.specs.Lots.{in_range, suits, taken, units, planned}
use Rattle.lots.specs.declared.lot.Lot.{Lot}
use Rattle.lots.specs.declared.lot.LotFault.{LotFault}
use Rattle.lots.specs.declared.lot.LotFault.TheVariants.{OutOfRange, NotTaken}
use Rattle.sheet.specs.Sound.{sound, sound_plan}

and_true : (a b : Bool) → a ≡ true → b ≡ true → (a && b) ≡ true
and_true a b h k = cc

average_true : (b : Bool) (n : ℕ) → (b ≡ true → 2 ≤ n) → (not b || leb 2 n) ≡ true
average_true true n h = le-leb 2 n (h refl)
average_true false n h = refl

sound_of : (size : ℕ) (s : Sampling) → Sound size s → sound_plan s.plan ≡ true
sound_of size s h =
    and_true _ _ (le-leb _ _ h.some) (and_true _ _ (le-leb _ _ h.few) (and_true _ _ (average_true s.plan.rule.average s.plan.sample h.average)
    (and_true _ _ (le-leb _ _ h.factor) (and_true _ _ (le-leb _ _ h.allowed) (le-leb _ _ h.initial)))))

taken_sound : (size : ℕ) (o : Option Sampling) (plan : Plan) → InBounds size o → taken o ≡ Ok plan → sound_plan plan ≡ true
taken_sound size None plan h e = cc
taken_sound size (Some s) plan h e = let same : s.plan ≡ plan = cc in subst (λ (p : Plan). sound_plan p ≡ true) same (sound_of size s h)

-- what a plan has asked
pub by_range : (ranged suited : Bool) (o : Result Plan LotFault) (plan : Plan) → cond ranged (cond suited o (Err NotTaken)) (Err OutOfRange) ≡ Ok plan → (ranged ≡ true) × (o ≡ Ok plan)
by_range true true o plan e = (refl, e)
by_range true false o plan e = cc
by_range false suited o plan e = cc

pub planned_sound : (category : ℕ → List ℕ → ℕ → Option Sampling) (kind : Meaning) (lot : Lot) (plan : Plan) →
    ((size : ℕ) (word : List ℕ) (label : ℕ) → InBounds size (category size word label)) → planned category kind lot ≡ Ok plan → sound lot plan ≡ true
planned_sound category kind lot plan law e =
    let b = by_range (in_range lot) (suits kind.word lot) (taken (category lot.size kind.word (units lot.label lot.division))) plan e in
    and_true _ _ b.0 (taken_sound lot.size (category lot.size kind.word (units lot.label lot.division)) plan (law _ _ _) b.1)
