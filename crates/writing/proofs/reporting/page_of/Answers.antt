use Rattle.std.proofs.Common.{[], ◌∷◌, codes, decimal, ap, ◌∙◌, to_z-of_z, w64, SFits, rules}
use Rattle.std.specs.Fmt.{signed_decimal}
use Rattle.decision.specs.declared.outcome.Decision.{Decision}
use Rattle.writing.specs.Bytes.{line}
use Rattle.decision.specs.Verdicts.{verdict_word}
use Rattle.writing.proofs.Lines.{grown}
use Rattle.writing.proofs.reporting.page_of.Goals as goal

pub returns : goal.returns
returns c =
    let is = c.decision-decision.ensures in
    let fits : SFits w64 c.decision-decision.result.figures.total = search rules in
    c.line-8.ensures.text
    ∙ grown (c.line-7.ensures.text
    ∙ grown (c.line-6.ensures.text
    ∙ grown (c.line-5.ensures.text
    ∙ grown (c.line-4.ensures.text
    ∙ grown (c.line-3.ensures.text
    ∙ grown (c.line-2.ensures.text
    ∙ grown (c.line.ensures.text
    ∙ grown c.new-page.ensures
    (ap (λ (d : Decision). line (codes "sample" ∷ decimal d.figures.sample ∷ [])) is))
    (λ i. line (codes "tare" ∷ decimal (c.tare_total-total.ensures i) ∷ decimal (c.average_tare-average.ensures i) ∷ [])))
    (ap (λ z. line (codes "total" ∷ signed_decimal z ∷ [])) (to_z-of_z fits ∙ ap (λ (d : Decision). d.figures.total) is)))
    (ap (λ (d : Decision). line (codes "short" ∷ decimal d.figures.short ∷ [])) is))
    (ap (λ (d : Decision). line (codes "unreasonable" ∷ decimal d.figures.unreasonable ∷ [])) is))
    (ap (λ (d : Decision). line (codes "deviation" ∷ decimal d.deviation ∷ [])) is))
    (ap (λ (d : Decision). line (codes "limit" ∷ decimal d.limit ∷ [])) is))
    (ap (λ w. line (codes "verdict" ∷ w ∷ [])) (c.as_bytes.ensures.value ∙ c.word-verdict.ensures) ∙ ap (λ (d : Decision). line (codes "verdict" ∷ verdict_word d.verdict ∷ [])) is)
