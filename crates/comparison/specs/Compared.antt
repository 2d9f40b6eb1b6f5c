-- What is answered to two lists of package errors for one lot.
use Rattle.std.specs.Prelude.{◌≡◌, ℕ, ◌≤◌, List, length, ℤ, pos, ◌≤ℤ◌, Some, None, Ok, Err, IsTrue, ◌↔◌, Result}
use Rattle.decision.specs.declared.outcome.Decision.{Decision}
use Rattle.decision.specs.declared.rule.Rule.{Rule}
use Rattle.decision.specs.Answer.{refusal, Decided}
use Rattle.decision.specs.Sample.{total}
use Rattle.decision.specs.Verdicts.{spread, Passes}
use Rattle.comparison.specs.declared.premises.Comparison.{Comparison}
use Rattle.comparison.specs.declared.premises.Premises.{Premises}
use Rattle.comparison.specs.declared.premises.Refused.{Refused}
use Rattle.comparison.specs.declared.premises.Refused.TheVariants.{First, Second}
use Rattle.comparison.specs.Rises.{NoneLower, OrderKept, Lower, Crossed}

-- the premises that are said to hold are those that do
pub record Stated (es ds : List ℤ) (p : Premises) : Type 0 where
  pub lower : Lower es ds p.lower
  pub crossed : Crossed es ds p.crossed
  pub average : IsTrue p.average ↔ (pos 0 ≤ℤ total es)
  -- in the words of the rule
  pub none_lower : (p.lower ≡ None) ↔ NoneLower es ds
  pub order_kept : (p.crossed ≡ None) ↔ OrderKept es ds

-- the rule for two lists, of the decisions
pub record RuleForTwo (es ds : List ℤ) (first second : Decision) : Type 0 where
  pub short : NoneLower es ds → second.figures.short ≤ first.figures.short
  pub unreasonable : NoneLower es ds → second.figures.unreasonable ≤ first.figures.unreasonable
  pub counted : NoneLower es ds → second.counted ≤ first.counted
  pub spread : NoneLower es ds → OrderKept es ds → spread first.figures ≤ℤ spread second.figures
  pub order : NoneLower es ds → OrderKept es ds → Passes first.verdict → Passes second.verdict
  pub average : NoneLower es ds → pos 0 ≤ℤ first.figures.total → Passes first.verdict → Passes second.verdict

pub record Compared (division : ℕ) (mavs : List (ℕ × ℕ)) (rule : Rule) (es ds : List ℤ) (c : Comparison) : Type 0 where
  pub accepted : (refusal (length mavs) rule es ≡ None) × (refusal (length mavs) rule ds ≡ None)
  pub first : Decided division mavs rule es c.first
  pub second : Decided division mavs rule ds c.second
  pub stated : Stated es ds c.premises
  pub rule_for_two : RuleForTwo es ds c.first c.second

abbrev pub Compares : ℕ → List (ℕ × ℕ) → Rule → List ℤ → List ℤ → Result Comparison Refused → Type 0
Compares division mavs rule es ds (Ok c) = Compared division mavs rule es ds c
Compares division mavs rule es ds (Err (First fault)) = refusal (length mavs) rule es ≡ Some fault
Compares division mavs rule es ds (Err (Second fault)) = (refusal (length mavs) rule es ≡ None) × (refusal (length mavs) rule ds ≡ Some fault)
