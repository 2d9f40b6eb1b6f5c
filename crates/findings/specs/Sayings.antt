-- What is said of a verdict and of two samples.
use Rattle.std.specs.Prelude.{ℕ, ◌+◌, ◌-◌, ◌^◌, Bool, List, ◌∷◌, ◌++◌, if◌then◌else◌, min, codes, decimal, Some, None, Option}
use Rattle.comparison.specs.declared.premises.Premises.{Premises}
use Rattle.decision.specs.declared.outcome.Verdict.{Verdict}
use Rattle.decision.specs.declared.outcome.Verdict.TheVariants.{Mav, Plan, Over, Average, Within}
use Rattle.decision.specs.Verdicts.{verdict_word}
use Rattle.findings.specs.declared.consequences.Subject.{Subject}
use Rattle.findings.specs.declared.consequences.Subject.TheVariants.{Lists, Sheets}

-- whether a lot passes by a verdict
abbrev pub passing_word : Verdict → List ℕ
passing_word Mav = codes "fails"
passing_word Plan = codes "passes"
passing_word Over = codes "passes"
passing_word Average = codes "fails"
passing_word Within = codes "passes"

abbrev pub outcome_text : Verdict → List ℕ
outcome_text verdict = verdict_word verdict ++ (codes ": " ++ passing_word verdict)

-- a place counts from 0, a package from 1
abbrev pub package_at : ℕ → List ℕ
package_at place = decimal (min (place + 1) (2 ^ 64 - 1))

-- what follows of the counts where no error is lower
abbrev pub counts_text : Subject → List ℕ
counts_text Lists = codes "at most as many counted"
counts_text Sheets = codes "the second counts no more packages"

abbrev pub passing_text : Subject → List ℕ
passing_text Lists = codes "passes if the first did"
passing_text Sheets = codes "it passed if the first did"

abbrev pub order_text : Subject → Option (ℕ × ℕ) → List ℕ
order_text subject None = codes "rises keep the order: " ++ passing_text subject
order_text subject (Some pair) =
    codes "nothing follows from the order: package " ++ (package_at pair.0 ++ (codes " stood below package " ++ (package_at pair.1 ++ codes " and rose by more")))

abbrev pub average_text : Subject → Bool → List ℕ
average_text subject holds = if holds then codes "average not below zero: " ++ passing_text subject else codes "nothing follows from the average: it is below zero"

abbrev pub lines_text : Subject → Premises → List ℕ
lines_text subject premises =
    codes "no error lower: " ++ (counts_text subject ++ (10 ∷ (order_text subject premises.crossed ++ (10 ∷ average_text subject premises.average))))

-- by the first place whose error is lower
abbrev pub text_by_lower : Subject → Premises → Option ℕ → List ℕ
text_by_lower subject premises (Some place) = codes "nothing follows: the error of package " ++ (package_at place ++ codes " is lower")
text_by_lower subject premises None = lines_text subject premises

abbrev pub consequences_text : Subject → Premises → List ℕ
consequences_text subject premises = text_by_lower subject premises premises.lower
