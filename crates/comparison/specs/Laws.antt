-- The rule for two lists of package errors for one lot, over all lists of integers.
use Rattle.std.specs.Prelude.{◌≡◌, ℕ, ◌≤◌, true, List, ◌∷◌, length, replicate, ℤ, pos, negsuc, ◌≤ℤ◌}
use Rattle.decision.specs.declared.rule.Counted.TheVariants.{Unreasonable}
use Rattle.decision.specs.declared.rule.Rule.{Rule}
use Rattle.decision.specs.Sample.{total, pairs, short, unreasonable, figures}
use Rattle.decision.specs.Verdicts.{counted, verdict, Passes}
use Rattle.comparison.specs.Rises.{NoneLower, OrderKept}

-- what follows where no error is lower in the second list
pub record Follows (rule : Rule) (division : ℕ) (mavs : List (ℕ × ℕ)) (es ds : List ℤ) : Type 0 where
  pub short : short ds ≤ short es
  pub unreasonable : unreasonable division mavs ds ≤ unreasonable division mavs es
  pub counted : counted rule (figures division mavs ds) ≤ counted rule (figures division mavs es)
  pub order : OrderKept es ds → Passes (verdict rule (figures division mavs es)) → Passes (verdict rule (figures division mavs ds))
  pub average : pos 0 ≤ℤ total es → Passes (verdict rule (figures division mavs es)) → Passes (verdict rule (figures division mavs ds))

abbrev pub TwoLists : Type 0
TwoLists = (rule : Rule) (division : ℕ) (mavs : List (ℕ × ℕ)) (es ds : List ℤ) → NoneLower es ds → Follows rule division mavs es ds

-- rises that keep the order never narrow the spread
abbrev pub Wider : Type 0
Wider = (es ds : List ℤ) → length ds ≡ length es → OrderKept es ds → pairs es ≤ℤ pairs ds

-- two lists under one rule, the second nowhere lower, of which the first passes and the second fails
pub record HeavierFails (rule : Rule) (division : ℕ) (mavs : List (ℕ × ℕ)) (es ds : List ℤ) : Type 0 where
  pub heavier : NoneLower es ds
  pub passes : Passes (verdict rule (figures division mavs es))
  pub fails : Passes (verdict rule (figures division mavs ds)) → ⊥

-- Category A's rule for a sample of 12, a label of 1 lb with its MAV of 0.044 lb, and a scale of 0.001 lb. Eleven packages are 1
-- division short and one is 40 short: the lot passes. Topped up, so that all twelve are 1 short, it fails.
abbrev pub OrderNeeded : Type 0
OrderNeeded =
    HeavierFails (record { average = true; factor = 635; allowed = 0; counted = Unreasonable }) 10 (replicate 12 (440, 1))
    (negsuc 39 ∷ replicate 11 (negsuc 0)) (negsuc 0 ∷ replicate 11 (negsuc 0))
