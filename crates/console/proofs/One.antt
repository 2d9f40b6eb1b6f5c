-- A text has one transcript.
use Rattle.std.proofs.Common.{◌≡◌, ℕ, ◌+◌, ◌*◌, ◌/◌, Bool, true, false, cond, ltb, List, [], ◌∷◌, ◌++◌, length, codes, decimal, MatchBool, sym, ap, ◌∙◌, subst, arith}
use Rattle.std.specs.Fmt.{signed_decimal}
use Rattle.decision.specs.Sample.{figures}
use Rattle.decision.specs.Verdicts.{Largest, Deviates, verdict}
use Rattle.packages.specs.declared.reading.Reading.{Reading}
use Rattle.sheet.specs.Closing.{Recorded, errors, mavs}
use Rattle.sheet.specs.Terms.{Terms}
use Rattle.sheet.specs.declared.call.Phase.{Phase}
use Rattle.sheet.specs.declared.call.Phase.TheVariants.{Unsettled, Settled}
use Rattle.sheet.specs.declared.record.Record.{Record}
use Rattle.words.specs.Lines.{lines}
use Rattle.writing.specs.Bytes.{line}
use Rattle.writing.specs.Report.{report, verdict_word}
use Rattle.console.specs.Effects.{Standing, idle, closed}
use Rattle.console.specs.Transcripts.{Said, says, reports, said, GoesOn, Told, OneTranscript}

abbrev total_of : Phase → ℕ
total_of Unsettled = 0
total_of (Settled total average) = total

abbrev average_of : Phase → ℕ
average_of Unsettled = 0
average_of (Settled total average) = average

-- the deviation is the largest number that fits, and the limit follows from it
deviates_one : (b : Bool) (n x f v l w k : ℕ) → cond b (Largest n x v × (l ≡ v * f / 1000)) ((v ≡ 0) × (l ≡ 0)) → cond b (Largest n x w × (k ≡ w * f / 1000)) ((w ≡ 0) × (k ≡ 0))
    → (v ≡ w) × (l ≡ k)
deviates_one true n x f v l w k p q =
    let same : v ≡ w = omega (arith, p.0.most w q.0.holds, q.0.most v p.0.holds) in
    (same, p.1 ∙ ap (λ v. v * f / 1000) same ∙ sym q.1)
deviates_one false n x f v l w k p q = (p.0 ∙ sym q.0, p.1 ∙ sym q.1)

report_one : (t : Terms) (ph : Phase) (rows : List Reading) (r s : Record) → Recorded t ph rows r → Recorded t ph rows s → report r ≡ report s
report_one t ph rows r s p q =
    let settled = sym p.settled ∙ q.settled in
    let total = ap total_of settled in
    let average = ap average_of settled in
    let f = ap (λ a. figures t.division (mavs t rows) (errors t a rows)) average in
    let figs = p.decided.concluded.figures ∙ f ∙ sym q.decided.concluded.figures in
    let says-verdict = p.decided.concluded.verdict ∙ ap (verdict t.rule) f ∙ sym q.decided.concluded.verdict in
    let moved = subst (λ g. Deviates t.rule g r.decision.deviation r.decision.limit) f p.decided.concluded.deviates in
    let dev = deviates_one t.rule.average _ _ t.rule.factor r.decision.deviation r.decision.limit s.decision.deviation s.decision.limit moved q.decided.concluded.deviates in
    λ i.
    line (codes "sample" ∷ decimal (figs i).sample ∷ [])
    ++ line (codes "tare" ∷ decimal (total i) ∷ decimal (average i) ∷ [])
    ++ line (codes "total" ∷ signed_decimal (figs i).total ∷ [])
    ++ line (codes "short" ∷ decimal (figs i).short ∷ [])
    ++ line (codes "unreasonable" ∷ decimal (figs i).unreasonable ∷ [])
    ++ line (codes "deviation" ∷ decimal (dev.0 i) ∷ [])
    ++ line (codes "limit" ∷ decimal (dev.1 i) ∷ [])
    ++ line (codes "verdict" ∷ verdict_word (says-verdict i) ∷ [])

goes_one : (s : Said) (rows : List Reading) (next : Standing → List Reading → List ℕ → Type 0) → ((st : Standing) (rows : List Reading) (a b : List ℕ) → next st rows a → next st rows b → a ≡ b)
    → (a b : List ℕ) → GoesOn s rows next a → GoesOn s rows next b → a ≡ b
goes_one (says bs st rows') rows next one a b p q = p.whole ∙ ap (λ l. bs ++ l) (one st rows' _ _ p.on q.on) ∙ sym q.whole
goes_one (reports t ph) rows next one a b p q =
    let same = report_one t ph rows p.rec q.rec p.decided q.decided in
    let rest = one closed rows _ _ p.then.on q.then.on in
    p.then.whole ∙ (λ i. same i ++ rest i) ∙ sym q.then.whole

told_one : (labeled : Bool) (n : ℕ) (ls : List (List ℕ)) (st : Standing) (rows : List Reading) (a b : List ℕ) → Told labeled n ls st rows a → Told labeled n ls st rows b → a ≡ b
told_one labeled n [] st rows a b p q = p ∙ sym q
told_one labeled n (l ∷ ls) st rows a b p q =
    goes_one (said labeled n l st rows) rows (λ st₁ rows₁ out₁. Told labeled (n + 1) ls st₁ rows₁ out₁) (λ st₁ rows₁ a b. told_one labeled (n + 1) ls st₁ rows₁ a b) a b p q

when_one : (long : Bool) (A B : List ℕ → Type 0) → ((a b : List ℕ) → A a → A b → a ≡ b) → ((a b : List ℕ) → B a → B b → a ≡ b) → (a b : List ℕ) → MatchBool long (A a) (B a) → MatchBool long (A b) (B b) → a ≡ b
when_one true A B one other a b p q = one a b p q
when_one false A B one other a b p q = other a b p q

pub one_transcript : OneTranscript
one_transcript labeled text rows a b p q =
    when_one (ltb 65536 (length text)) (λ out. out ≡ codes "1 1 T 1\n") (λ out. Told labeled 1 (lines text) idle rows out) (λ a b p q. p ∙ sym q) (told_one labeled 1 (lines text) idle rows) a b p q
