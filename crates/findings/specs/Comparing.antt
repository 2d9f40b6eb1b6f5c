-- What the rule for two says of two closed sheets.
use Rattle.std.specs.Prelude.{◌≡◌, Ok, Err, Result}
use Rattle.comparison.specs.declared.premises.Comparison.{Comparison}
use Rattle.comparison.specs.declared.premises.Refused.{Refused}
use Rattle.comparison.specs.Compared.{Compares}
use Rattle.findings.specs.declared.closed.Findings.{Findings}
use Rattle.findings.specs.declared.consequences.Consequences.{Consequences}
use Rattle.findings.specs.declared.consequences.Subject.TheVariants.{Sheets}
use Rattle.findings.specs.declared.unfollowed.NothingFollows.{NothingFollows}
use Rattle.findings.specs.declared.unfollowed.NothingFollows.TheVariants.{NotShared, Undecided}

-- the sheets share category, kind, lot size, division and labels
pub record Share (f g : Findings) : Type 0 where
  pub category : f.start.category ≡ g.start.category
  pub kind : f.start.kind ≡ g.start.kind
  pub size : f.start.lot.size ≡ g.start.lot.size
  pub division : f.start.lot.division ≡ g.start.lot.division
  -- the sheets' label, or none on either
  pub label : f.start.lot.label ≡ g.start.lot.label
  -- the packages' labels
  pub labels : f.labels.items ≡ g.labels.items

-- what the rule for two lists says of their errors, by the MAVs, the division and the rule of the first
abbrev pub Weighs : Findings → Findings → Result Comparison Refused → Type 0
Weighs f g compared = Compares f.start.lot.division f.mavs.items f.record.rule f.errors.items g.errors.items compared

abbrev pub Answers : Findings → Findings → Result Consequences NothingFollows → Type 0
Answers f g (Ok said) = Share f g × (said.subject ≡ Sheets) × ((c : Comparison) × (c.premises ≡ said.premises) × Weighs f g (Ok c))
Answers f g (Err NotShared) = ¬ Share f g
Answers f g (Err (Undecided refused)) = Share f g × Weighs f g (Err refused)
