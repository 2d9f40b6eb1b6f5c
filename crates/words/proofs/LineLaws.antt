-- The lines of a text, one after the other.
use Rattle.std.proofs.Common.{◌≡◌, ℕ, suc, ◌<◌, eqb, List, [], ◌∷◌, length, take, drop, sym, refl, ap, ◌∙◌, subst, ⊎_elim, one-add, arith}
use Rattle.std.proofs.lemmas.Bool.{cases_Bool, cond-true, cond-false, eqb-true, not_from_false}
use Rattle.words.specs.Lines.{line_length, lines, in_front}

-- a byte in front of a line
joined_line : (b : ℕ) (bs : List ℕ) → ((0 < length bs) → lines bs ≡ take (line_length bs) bs ∷ lines (drop (suc (line_length bs)) bs))
    → in_front b (lines bs) ≡ (b ∷ take (line_length bs) bs) ∷ lines (drop (suc (line_length bs)) bs)
joined_line b [] h = refl
joined_line b (c ∷ bs) h = ap (in_front b) (h (omega arith))

pub first_line : (bs : List ℕ) → 0 < length bs → lines bs ≡ take (line_length bs) bs ∷ lines (drop (suc (line_length bs)) bs)
first_line [] h = absurd (omega arith)
first_line (b ∷ bs) h =
    ⊎_elim
    (λ t. subst (λ b. lines (b ∷ bs) ≡ take (line_length (b ∷ bs)) (b ∷ bs) ∷ lines (drop (suc (line_length (b ∷ bs))) (b ∷ bs))) (sym (eqb-true b 10 t)) refl)
    (λ f.
    let more : line_length (b ∷ bs) ≡ suc (line_length bs) = cond-true _ _ _ (not_from_false _ f) ∙ one-add _ in
    cond-false _ _ _ f
    ∙ subst (λ n. in_front b (lines bs) ≡ take n (b ∷ bs) ∷ lines (drop (suc n) (b ∷ bs))) (sym more) (joined_line b bs (first_line bs)))
    (cases_Bool (eqb b 10))
