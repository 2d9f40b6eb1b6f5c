-- The report of a closed record, and the line of a refusal.
use Rattle.std.specs.Prelude.{ℕ, List, [], ◌∷◌, ◌++◌, codes, decimal}
use Rattle.std.specs.Fmt.{signed_decimal}
pub use Rattle.decision.specs.Verdicts.{verdict_word}
use Rattle.sheet.specs.declared.record.Record.{Record}
use Rattle.writing.specs.Bytes.{line}

abbrev pub report : Record → List ℕ
report r =
    line (codes "sample" ∷ decimal r.decision.figures.sample ∷ [])
    ++ line (codes "tare" ∷ decimal r.tare_total ∷ decimal r.average_tare ∷ [])
    ++ line (codes "total" ∷ signed_decimal r.decision.figures.total ∷ [])
    ++ line (codes "short" ∷ decimal r.decision.figures.short ∷ [])
    ++ line (codes "unreasonable" ∷ decimal r.decision.figures.unreasonable ∷ [])
    ++ line (codes "deviation" ∷ decimal r.decision.deviation ∷ [])
    ++ line (codes "limit" ∷ decimal r.decision.limit ∷ [])
    ++ line (codes "verdict" ∷ verdict_word r.decision.verdict ∷ [])

-- the line, the column, the letter of the layer and the number of the question
abbrev pub refusal_line : ℕ → ℕ → ℕ → ℕ → List ℕ
refusal_line at column letter number = line (decimal at ∷ decimal column ∷ (letter ∷ []) ∷ decimal number ∷ [])

-- said last of a text in which no closing was accepted
abbrev pub still_open : List ℕ
still_open = line (codes "open" ∷ [])
