-- One turn of a whole text, and its end.
use Rattle.std.proofs.Common.{◌≡◌, ℕ, suc, ◌+◌, ◌<◌, ◌≤◌, Bool, true, false, cond, eqb, List, [], ◌∷◌, ◌++◌, length, take, drop, Ok, codes, MatchBool, sym, refl, ap, ◌∙◌, subst, append_assoc, arith, drop-drop}
use Rattle.std.proofs.lemmas.Bool.{le-ltb}
use Rattle.packages.specs.declared.reading.Reading.{Reading}
use Rattle.words.specs.Lines.{line_length, lines, in_front}
use Rattle.words.proofs.LineLaws.{first_line}
use Rattle.writing.specs.Bytes.{Wrote}
use Rattle.writing.proofs.Lines.{front}
use Rattle.console.specs.declared.session.Session.{Session}
use Rattle.console.specs.declared.session.Session.TheVariants.{Idle, Open, Closed}
use Rattle.console.specs.Effects.{Standing, idle, closed, standing}
use Rattle.console.specs.Transcripts.{Said, says, reports, said, Speaks, Answers, GoesOn, Told, Transcript, ending, last_words}

in_front_short : (b : ℕ) (ls : List (List ℕ)) → length (in_front b ls) ≤ length ls + 1
in_front_short b [] = omega arith
in_front_short b (l ∷ ls) = omega arith

-- a text has no more lines than bytes
pub few_lines : (bs : List ℕ) → length (lines bs) ≤ length bs
few_lines [] = omega arith
few_lines (b ∷ bs) =
    elim (eqb b 10) as (λ t. length (cond t ([] ∷ lines bs) (in_front b (lines bs))) ≤ length (b ∷ bs)) [
      | true ↦ omega (arith, few_lines bs)
      | false ↦ omega (arith, few_lines bs, in_front_short b (lines bs))
    ]

-- of nothing, nothing stands behind the first byte
pub none_behind : (bs : List ℕ) → length bs ≡ 0 → bs ≡ drop 1 bs
none_behind [] h = refl
none_behind (b ∷ bs) h = absurd (omega arith)

-- a line, and the lines behind the byte that ends it
pub next_line : (text behind : List ℕ) (n : ℕ) → 0 < length text → n ≡ line_length text → behind ≡ drop 1 (drop n text) → lines text ≡ take n text ∷ lines behind
next_line text behind n some e rest =
    let on : n + 1 ≡ suc (line_length text) = omega arith in
    first_line text some ∙ (λ i. take (sym e i) text ∷ lines (drop (sym on i) text)) ∙ ap (λ l. take n text ∷ lines l) (sym (drop-drop 1 n text) ∙ sym rest)

-- a text that is not too long
pub short : (labeled : Bool) (text out : List ℕ) (rows : List Reading) → length text ≤ 65536 → Told labeled 1 (lines text) idle rows out → Transcript labeled text rows out
short labeled text out rows h told =
    subst (λ b. MatchBool b (out ≡ codes "1 1 T 1\n") (Told labeled 1 (lines text) idle rows out)) (sym (le-ltb 65536 (length text) h)) told

-- what was said of a line, and then what goes on
on_said : (s : Said) (rows rows₁ : List Reading) (old out : List ℕ) (n : ℕ) (st₁ : Standing) (next : Standing → List Reading → List ℕ → Type 0) (rest : List ℕ)
    → Speaks s rows old n out st₁ rows₁ → next st₁ rows₁ rest → GoesOn s rows next (take n out ++ rest)
on_said (says bs st rows') rows rows₁ old out n st₁ next rest h go = record {
  rest = rest;
  on = subst (λ rows. next st rows rest) h.2 (subst (λ st. next st rows₁ rest) h.1 go);
  whole = ap (λ l. l ++ rest) (front h.0);
}
on_said (reports t ph) rows rows₁ old out n st₁ next rest h go = record {
  rec = h.0.rec;
  decided = h.0.decided;
  then = record {
    rest = rest;
    on = subst (λ rows. next closed rows rest) h.2 (subst (λ st. next st rows₁ rest) h.1 go);
    whole = ap (λ l. l ++ rest) (front h.0.wrote);
  };
}

module _ (labeled : Bool) (st : Standing) (rows : List Reading) (k n : ℕ) (old out all all' : List ℕ) (more : all' ≡ all ++ take n out) (Q : List ℕ → Type 0) where
  pub turn : (ls ls' : List (List ℕ)) (line : List ℕ) → ls ≡ line ∷ ls' → ((rest : List ℕ) → Told labeled (k + 1) ls st rows rest → Q (all ++ rest))
      → (st₁ : Standing) (rows₁ : List Reading) → Answers (said labeled (k + 1) line st rows) st rows old (Ok n) out st₁ rows₁
      → (rest : List ℕ) → Told labeled (k + 1 + 1) ls' st₁ rows₁ rest → Q (all' ++ rest)
  turn ls ls' line split inv st₁ rows₁ answers rest go =
      let told = on_said (said labeled (k + 1) line st rows) rows rows₁ old out n st₁ (λ st₁ rows₁ out₁. Told labeled (k + 1 + 1) ls' st₁ rows₁ out₁) rest answers.1 go in
      subst Q (sym (append_assoc all (take n out) rest) ∙ ap (λ l. l ++ rest) (sym more))
      (inv (take n out ++ rest) (subst (λ ls. Told labeled (k + 1) ls st rows (take n out ++ rest)) (sym split) told))

  pub done : (ls : List (List ℕ)) → ls ≡ [] → ((rest : List ℕ) → Told labeled (k + 1) ls st rows rest → Q (all ++ rest))
      → (s : Session) → standing labeled s ≡ st → Wrote old (last_words s) n out → Q all'
  done ls none inv s is w =
      subst Q (ap (λ l. all ++ l) (sym (ap ending is) ∙ sym (last s) ∙ sym (front w)) ∙ sym more)
      (inv (ending st) (subst (λ ls. Told labeled (k + 1) ls st rows (ending st)) (sym none) refl)) where
        last : (s : Session) → last_words s ≡ ending (standing labeled s)
        last Idle = refl
        last (Open s) = refl
        last Closed = refl
