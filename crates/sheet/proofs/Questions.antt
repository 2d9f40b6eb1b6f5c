-- The questions put at closing, and the sample that is then decided.
use Rattle.std.proofs.Common.{◌≡◌, ℕ, ◌*◌, ◌<◌, ◌≤◌, Bool, true, false, cond, not, ◌&&◌, ◌||◌, eqb, ltb, List, length, take, ℤ, is_some, Some, None, Ok, Err, Result, IsOk, sym, refl, ap, ◌∙◌, subst}
use Rattle.std.proofs.lemmas.List.{length-map, length-take-le}
use Rattle.std.proofs.lemmas.Bool.{cond-true, cond-false, lt-ltb, le-ltb, eq-eqb, or_from, not_from_true}
use Rattle.std.specs.List.{list_all}
use Rattle.decision.specs.Answer.{outside, ranged, refusal, Answers, Decided}
use Rattle.decision.specs.declared.outcome.Decision.{Decision}
use Rattle.decision.specs.declared.outcome.Fault.{Fault}
use Rattle.decision.specs.declared.outcome.Fault.TheVariants.{Count, Mavs, Average}
use Rattle.decision.specs.declared.rule.Rule.{Rule}
use Rattle.packages.specs.declared.reading.Reading.{Reading}
use Rattle.sheet.specs.declared.call.Phase.{Phase}
use Rattle.sheet.specs.declared.call.Phase.TheVariants.{Unsettled, Settled}
use Rattle.sheet.specs.declared.refusal.Refusal.TheVariants as why
use Rattle.sheet.specs.Closing.{complete, all_complete, errors, mavs, closing, closing_in, closing_settled}
use Rattle.sheet.specs.Terms.{Terms}
use Rattle.sheet.proofs.Weighed.{none_some}

flipped : (a b : Bool) → a ≡ not b → b ≡ not a
flipped a true e = ap not (sym e)
flipped a false e = ap not (sym e)

-- what the code asks of the sample that it is lent
pub asked : (t : Terms) (b labeled none : Bool) (first rows : List Reading) → t.random ≡ not labeled → labeled ≡ not none → first ≡ take t.sample rows → b ≡ list_all (complete none) first → b ≡ all_complete t (take t.sample rows)
asked t b labeled none first rows r n f e =
    e ∙ ap (list_all (complete none)) f ∙ ap (λ (x : Bool). list_all (complete x) (take t.sample rows)) (flipped labeled none n ∙ sym r)

module _ (t : Terms) (ph : Phase) (rows : List Reading) where
  pub few_places : length rows < t.sample → closing t ph rows ≡ Some why.FewPlaces
  few_places h = cond-true _ _ _ (lt-ltb (length rows) t.sample h)

  enough : t.sample ≤ length rows → closing t ph rows ≡ closing_in t ph rows
  enough h = cond-false _ _ _ (le-ltb (length rows) t.sample h)

  pub unsettled : t.sample ≤ length rows → ph ≡ Unsettled → closing t ph rows ≡ Some why.Unsettled
  unsettled h e = enough h ∙ ap (λ (p : Phase). closing_in t p rows) e

  module _ (total average : ℕ) (h : t.sample ≤ length rows) (e : ph ≡ Settled total average) where
    settled : closing t ph rows ≡ closing_settled t average rows
    settled = enough h ∙ ap (λ (p : Phase). closing_in t p rows) e

    module _ (b : Bool) (a : b ≡ all_complete t (take t.sample rows)) where
      pub unweighed : b ≡ false → closing t ph rows ≡ Some why.Unweighed
      unweighed f = settled ∙ cond-false _ _ _ (sym a ∙ f)

      pub error_range : b ≡ true → is_some (outside (errors t average rows)) ≡ true → closing t ph rows ≡ Some why.ErrorRange
      error_range f o = settled ∙ cond-true _ _ _ (sym a ∙ f) ∙ cond-true _ _ _ o

      pub passes : b ≡ true → outside (errors t average rows) ≡ None → closing t ph rows ≡ None
      passes f o = settled ∙ cond-true _ _ _ (sym a ∙ f) ∙ cond-false _ _ _ (ap is_some o)

average_asked : (b : Bool) (n : ℕ) → (b ≡ true → 2 ≤ n) → cond (b && ltb n 2) (Some Average) None ≡ None
average_asked true n h = cond-false _ _ _ (le-ltb n 2 (h refl))
average_asked false n h = refl

-- a sample that fails no question of the decision
unrefused : (rule : Rule) (n m : ℕ) (es : List ℤ) → length es ≡ n → m ≡ n → 1 ≤ n → n ≤ 48 → rule.factor * n ≤ 18000 → rule.allowed ≤ n → (rule.average ≡ true → 2 ≤ n) →
    outside es ≡ None → refusal m rule es ≡ None
unrefused rule n m es e b some few factor allowed average none =
    subst (λ (k : ℕ). cond (ltb k 1 || ltb 48 k) (Some Count) (cond (not (eqb m k)) (Some Mavs) (ranged rule k (outside es))) ≡ None) (sym e)
    (cond-false _ _ _ (or_from (ltb n 1) (ltb 48 n) (le-ltb n 1 some) (le-ltb 48 n few)) ∙ cond-false _ _ _ (not_from_true (eqb m n) (eq-eqb m n b)) ∙ ap (ranged rule n) none
    ∙ cond-false _ _ _ (le-ltb 18000 (rule.factor * n) factor) ∙ cond-false _ _ _ (le-ltb n rule.allowed allowed) ∙ average_asked rule.average n average)

-- the sample of a sheet that is sound, its errors in range
pub accepts : (t : Terms) (average : ℕ) (rows : List Reading) → t.sample ≤ length rows → 1 ≤ t.sample → t.sample ≤ 48 → t.rule.factor * t.sample ≤ 18000 → t.rule.allowed ≤ t.sample → (t.rule.average ≡ true → 2 ≤ t.sample) →
    outside (errors t average rows) ≡ None → refusal (length (mavs t rows)) t.rule (errors t average rows) ≡ None
accepts t average rows h some few factor allowed av none =
    let n = length-take-le t.sample rows h in
    unrefused t.rule t.sample _ _ (length-map (take t.sample rows) _ ∙ n) (length-map (take t.sample rows) _ ∙ n) some few factor allowed av none

made : (division : ℕ) (ms : List (ℕ × ℕ)) (rule : Rule) (es : List ℤ) (r : Result Decision Fault) → refusal (length ms) rule es ≡ None → Answers division ms rule es r → IsOk r
made division ms rule es (Ok d) none a = refl
made division ms rule es (Err fault) none a = absurd (none_some _ _ none a)

-- the decision over the errors and MAVs that the code passes on
module _ (t : Terms) (average : ℕ) (rows : List Reading) (es : List ℤ) (ms : List (ℕ × ℕ)) (r : Result Decision Fault) (ee : es ≡ errors t average rows) (em : ms ≡ mavs t rows) (a : Answers t.division ms t.rule es r) where
  pub decides : refusal (length (mavs t rows)) t.rule (errors t average rows) ≡ None → IsOk r
  decides none =
      let b = subst (λ (xs : List ℤ). Answers t.division ms t.rule xs r) ee a in
      made t.division (mavs t rows) t.rule (errors t average rows) r none (subst (λ (ys : List (ℕ × ℕ)). Answers t.division ys t.rule (errors t average rows) r) em b)

  pub decided_on : (d : Decision) → r ≡ Ok d → Decided t.division (mavs t rows) t.rule (errors t average rows) d
  decided_on d e =
      let b = subst (λ (xs : List ℤ). Answers t.division ms t.rule xs r) ee a in
      let c = subst (λ (ys : List (ℕ × ℕ)). Answers t.division ys t.rule (errors t average rows) r) em b in
      (subst (λ (x : Result Decision Fault). Answers t.division (mavs t rows) t.rule (errors t average rows) x) e c).1
