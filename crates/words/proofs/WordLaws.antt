-- The words of a line, one after the other.
use Rattle.std.proofs.Common.{◌≡◌, ℕ, ◌+◌, ◌-◌, ◌<◌, true, false, eqb, List, [], ◌∷◌, length, take, drop, sym, refl, ap, ◌∙◌, subst, ⊎_elim, add-zero, one-add, arith, drop-drop}
use Rattle.std.proofs.lemmas.Bool.{cases_Bool, cond-true, cond-false, eqb-true, and_from, not_from_false}
use Rattle.std.proofs.lemmas.List.{take_rest}
use Rattle.words.specs.Lines.{gap, word_length, words_after, words}

-- past the spaces at the front
pub past_gap : (c : ℕ) (bs : List ℕ) → words c bs ≡ words (c + gap bs) (drop (gap bs) bs)
past_gap c [] = ap (λ n. words n []) (sym (add-zero c))
past_gap c (b ∷ bs) =
    ⊎_elim
    (λ t. subst (λ b. words c (b ∷ bs) ≡ words (c + gap (b ∷ bs)) (drop (gap (b ∷ bs)) (b ∷ bs))) (sym (eqb-true b 32 t))
    (past_gap (c + 1) bs ∙ simp (one-add) (ap (λ n. words n (drop (gap bs) bs)) (omega arith))))
    (λ f. let none : gap (b ∷ bs) ≡ 0 = cond-false _ _ _ f in
    ap (λ n. words n (b ∷ bs)) (sym (add-zero c)) ∙ ap (λ n. words (c + n) (drop n (b ∷ bs))) (sym none))
    (cases_Bool (eqb b 32))

word_more : (b : ℕ) (bs : List ℕ) → eqb b 32 ≡ false → eqb b 10 ≡ false → word_length (b ∷ bs) ≡ 1 + word_length bs
word_more b bs f g = cond-true _ _ _ (and_from _ _ (not_from_false _ f) (not_from_false _ g))

-- past the rest of a word
pub past_word : (c : ℕ) (bs : List ℕ) → words_after true c bs ≡ words (c + word_length bs) (drop (word_length bs) bs)
past_word c [] = refl
past_word c (b ∷ bs) =
    ⊎_elim
    (λ t. subst (λ b. words_after true c (b ∷ bs) ≡ words (c + word_length (b ∷ bs)) (drop (word_length (b ∷ bs)) (b ∷ bs))) (sym (eqb-true b 32 t)) (rw add-zero))
    (λ f. ⊎_elim
    (λ t. subst (λ b. words_after true c (b ∷ bs) ≡ words (c + word_length (b ∷ bs)) (drop (word_length (b ∷ bs)) (b ∷ bs))) (sym (eqb-true b 10 t)) refl)
    (λ g.
    let more : word_length (b ∷ bs) ≡ 1 + word_length bs = word_more b bs f g in
    cond-false _ _ _ g ∙ cond-false _ _ _ f ∙ past_word (c + 1) bs ∙
    subst (λ n. words (c + 1 + word_length bs) (drop (word_length bs) bs) ≡ words (c + n) (drop n (b ∷ bs))) (sym more)
    (simp (one-add) (ap (λ n. words n (drop (word_length bs) bs)) (omega arith))))
    (cases_Bool (eqb b 10)))
    (cases_Bool (eqb b 32))

-- what a word at the front gives
pub at_word : (c : ℕ) (bs : List ℕ) → 0 < word_length bs → words c bs ≡ (c, take (word_length bs) bs) ∷ words (c + word_length bs) (drop (word_length bs) bs)
at_word c [] h = absurd (omega arith)
at_word c (b ∷ bs) h =
    ⊎_elim
    (λ t. absurd (subst (λ b. 0 < word_length (b ∷ bs) → ⊥) (sym (eqb-true b 32 t)) (λ k. omega arith) h))
    (λ f. ⊎_elim
    (λ t. absurd (subst (λ b. 0 < word_length (b ∷ bs) → ⊥) (sym (eqb-true b 10 t)) (λ k. omega arith) h))
    (λ g.
    cond-false _ _ _ g ∙ cond-false _ _ _ f ∙
    ap (λ ws. (c, take (word_length (b ∷ bs)) (b ∷ bs)) ∷ ws) (sym (cond-false _ _ _ g ∙ cond-false _ _ _ f) ∙ past_word c (b ∷ bs)))
    (cases_Bool (eqb b 10)))
    (cases_Bool (eqb b 32))

-- no word at the front, past the spaces: the line has none
pub no_word : (c : ℕ) (bs : List ℕ) → gap bs ≡ 0 → word_length bs ≡ 0 → words c bs ≡ []
no_word c [] g h = refl
no_word c (b ∷ bs) g h =
    ⊎_elim
    (λ t. absurd (subst (λ b. gap (b ∷ bs) ≡ 0 → ⊥) (sym (eqb-true b 32 t)) (λ k. omega arith) g))
    (λ f. ⊎_elim
    (λ t. cond-true _ _ _ t)
    (λ k. absurd (omega (arith, word_more b bs f k)))
    (cases_Bool (eqb b 10)))
    (cases_Bool (eqb b 32))

gap_past : (bs : List ℕ) → gap (drop (gap bs) bs) ≡ 0
gap_past [] = refl
gap_past (b ∷ bs) =
    ⊎_elim
    (λ t. subst (λ b. gap (drop (gap (b ∷ bs)) (b ∷ bs)) ≡ 0) (sym (eqb-true b 32 t)) (simp one-add (gap_past bs)))
    (λ f. let none : gap (b ∷ bs) ≡ 0 = cond-false _ _ _ f in subst (λ n. gap (drop n (b ∷ bs)) ≡ 0) (sym none) none)
    (cases_Bool (eqb b 32))

-- the words from a place on, which g spaces and then w bytes of a word follow
module _ (t : List ℕ) (p c g w : ℕ) (gap_is : g ≡ gap (take (length t - p) (drop p t))) (word_is : w ≡ word_length (take (length t - (p + g)) (drop (p + g) t))) where
  gap_here : g ≡ gap (drop p t)
  gap_here = gap_is ∙ ap gap (take_rest t p)

  word_here : w ≡ word_length (drop (p + g) t)
  word_here = word_is ∙ ap word_length (take_rest t (p + g))

  past_here : words c (drop p t) ≡ words (c + g) (drop (p + g) t)
  past_here = past_gap c (drop p t) ∙ ap (λ n. words (c + n) (drop n (drop p t))) (sym gap_here) ∙ ap (words (c + g)) (drop-drop g p t)

  no_word_here : w ≡ 0 → (k : ℕ) → words k (drop (p + g) t) ≡ []
  no_word_here h k = no_word k (drop (p + g) t) (ap gap (sym (drop-drop g p t) ∙ ap (λ n. drop n (drop p t)) gap_here) ∙ gap_past (drop p t)) (sym word_here ∙ h)

  pub next_some : 0 < w → words c (drop p t) ≡ (c + g, take (p + g + w - (p + g)) (drop (p + g) t)) ∷ words (c + g + w) (drop (p + g + w) t)
  next_some h =
      let l = drop (p + g) t in
      let cut : w ≡ p + g + w - (p + g) = omega arith in
      past_here ∙ at_word (c + g) l (omega (arith, word_here))
      ∙ ap (λ n. (c + g, take n l) ∷ words (c + g + n) (drop n l)) (sym word_here)
      ∙ (λ i. (c + g, take (cut i) l) ∷ words (c + g + w) (drop-drop w (p + g) t i))

  pub next_none : w ≡ 0 → words c (drop p t) ≡ []
  next_none h = past_here ∙ no_word_here h (c + g)

  pub after_none : w ≡ 0 → (k : ℕ) → words k (drop (p + g + w) t) ≡ []
  after_none h k = let end : p + g + w ≡ p + g = omega arith in ap (λ n. words k (drop n t)) end ∙ no_word_here h k
