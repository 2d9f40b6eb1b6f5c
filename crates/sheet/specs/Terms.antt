-- What a sheet goes by: the numbers of its lot and plan, and what its category, kind and records mean.
use Rattle.std.specs.Prelude.{ℕ, ◌*◌, Bool, cond, not, List, is_some, Option}
use Rattle.std.specs.Option.{unwrap_or}
use Rattle.categories.specs.declared.plan.Plan.{Plan}
use Rattle.categories.specs.Meaning.{Sampling, total_at}
use Rattle.decision.specs.declared.rule.Rule.{Rule}
use Rattle.kinds.specs.Meaning.{Meaning}
use Rattle.lots.specs.Lots.{units}
use Rattle.lots.specs.declared.lot.Lot.{Lot}

pub record Terms : Type 0 where
  pub sample : ℕ
  -- the initial tare size; 0 where packages are not weighed with a tare
  pub initial : ℕ
  -- for each ratio in hundredths, the total for the tare
  pub total : ℕ → ℕ
  -- each package has a label of its own
  pub random : Bool
  -- the sheet's label in divisions, 0 on a random sheet
  pub label : ℕ
  pub allowance : ℕ
  pub division : ℕ
  -- the MAV of a label in divisions
  pub mav : ℕ → ℕ × ℕ
  pub rule : Rule
  -- the records of the package list keep labels
  pub labeled : Bool

abbrev pub terms : (ℕ → List ℕ → ℕ → Option Sampling) → Meaning → Bool → Lot → Plan → Terms
terms category kind labeled lot plan = record {
  sample = plan.sample;
  initial = cond kind.weighed plan.initial 0;
  total = total_at (category lot.size kind.word (units lot.label lot.division));
  random = not (is_some lot.label);
  label = unwrap_or lot.label 0;
  allowance = lot.allowance;
  division = lot.division;
  mav = λ label. kind.mav (label * lot.division);
  rule = plan.rule;
  labeled = labeled;
}
