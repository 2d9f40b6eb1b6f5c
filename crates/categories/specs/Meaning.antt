-- What a category of inspection means, and the bounds that each one keeps.
use Rattle.std.specs.Prelude.{◌≡◌, ℕ, ◌*◌, ◌≤◌, true, Some, None, Option}
use Rattle.categories.specs.declared.plan.Plan.{Plan}

pub record Sampling : Type 0 where
  pub plan : Plan
  -- for each ratio in hundredths, how many packages are opened in all to find the tare
  pub total : ℕ → ℕ

pub record Sound (size : ℕ) (s : Sampling) : Type 0 where
  pub some : 1 ≤ s.plan.sample
  pub few : s.plan.sample ≤ 48
  pub drawn : s.plan.sample ≤ size
  pub average : s.plan.rule.average ≡ true → 2 ≤ s.plan.sample
  pub factor : s.plan.rule.factor * s.plan.sample ≤ 18000
  pub allowed : s.plan.rule.allowed ≤ s.plan.sample
  pub initial : s.plan.initial ≤ s.plan.sample
  pub total_least : (ratio : ℕ) → s.plan.initial ≤ s.total ratio
  pub total_most : (ratio : ℕ) → s.total ratio ≤ s.plan.sample

abbrev pub InBounds : ℕ → Option Sampling → Type 0
InBounds size None = Unit {0}
InBounds size (Some s) = Sound size s

abbrev pub total_at : Option Sampling → ℕ → ℕ
total_at None ratio = 0
total_at (Some s) ratio = s.total ratio
