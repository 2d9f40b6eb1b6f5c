-- What is said of a closed sheet, and of two.
use Rattle.std.specs.Prelude.{ℕ, List, ◌∷◌, ◌++◌, codes, decimal, ℤ, Ok, Err, Result}
use Rattle.std.specs.Fmt.{signed_decimal}
use Rattle.std.specs.List.{flat_map}
use Rattle.decision.specs.declared.outcome.Decision.{Decision}
use Rattle.sheet.specs.declared.record.Record.{Record}
use Rattle.findings.specs.declared.closed.Findings.{Findings}
use Rattle.findings.specs.declared.consequences.Consequences.{Consequences}
use Rattle.findings.specs.declared.side_by_side.SideBySide.{SideBySide}
use Rattle.findings.specs.declared.unfollowed.NothingFollows.{NothingFollows}
use Rattle.findings.specs.declared.unfollowed.NothingFollows.TheVariants.{NotShared, Undecided}
use Rattle.findings.specs.Sayings.{outcome_text, consequences_text}

abbrev pub tare_text : Record → List ℕ
tare_text rec = codes "sample " ++ (decimal rec.decision.figures.sample ++ (codes ", tare " ++ (decimal rec.tare_total ++ (codes " " ++ decimal rec.average_tare))))

abbrev pub counts_text : Decision → List ℕ
counts_text d =
    codes "total " ++ (signed_decimal d.figures.total ++ (codes ", short " ++ (decimal d.figures.short
    ++ (codes ", unreasonable " ++ (decimal d.figures.unreasonable ++ (codes ", counted " ++ decimal d.counted))))))

abbrev pub verdict_text : Decision → List ℕ
verdict_text d =
    codes "deviation " ++ (decimal d.deviation ++ (codes ", limit " ++ (decimal d.limit ++ (codes "\nverdict " ++ outcome_text d.verdict))))

abbrev pub error_text : ℤ → List ℕ
error_text error = codes " " ++ signed_decimal error

abbrev pub errors_text : List ℤ → List ℕ
errors_text errors = codes "errors" ++ flat_map error_text errors

-- a line of the tare, one of the counts, two of the verdict and one of the errors
abbrev pub findings_text : Findings → List ℕ
findings_text f =
    tare_text f.record ++ (10 ∷ (counts_text f.record.decision ++ (10 ∷ (verdict_text f.record.decision ++ (10 ∷ errors_text f.errors.items)))))

abbrev pub nothing_text : NothingFollows → List ℕ
nothing_text NotShared = codes "nothing follows: the sheets do not share category, kind, lot size, division and labels"
nothing_text (Undecided refused) = codes "nothing follows"

abbrev pub said_text : Result Consequences NothingFollows → List ℕ
said_text (Ok said) = consequences_text said.subject said.premises
said_text (Err why) = nothing_text why

abbrev pub side_by_side_text : SideBySide → List ℕ
side_by_side_text both =
    codes "first record\n" ++ (findings_text both.first ++ (codes "\nsecond record\n" ++ (findings_text both.second ++ (10 ∷ said_text both.said))))
