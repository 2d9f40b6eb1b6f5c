-- The words of a line, joined.
use Rattle.std.proofs.Common.{◌≡◌, ℕ, List, [], ◌∷◌, ◌++◌, length, take, drop, map, flat_map, sym, ap, ◌∙◌, append-nil}
use Rattle.std.proofs.lemmas.List.{take_at}
use Rattle.writing.specs.declared.word.Word.{Word}
use Rattle.writing.specs.Bytes.{Wrote, spaced}
use Rattle.writing.specs.Words.{text_of}

-- each word behind the first has a space in front
pub spaced_words : (first : List ℕ) (others : List Word) → spaced (first ∷ map text_of others) ≡ first ++ flat_map (λ w. 32 ∷ text_of w) others
spaced_words first [] = sym (append-nil first)
spaced_words first (w ∷ ws) = ap (λ l. first ++ 32 ∷ l) (spaced_words (text_of w) ws)

-- the part of the output that was written
pub front : {old bs out : List ℕ} {n : ℕ} → Wrote old bs n out → take n out ≡ bs
front {old} {bs} {out} {n} w = ap (take n) w.bytes ∙ take_at bs (drop (length bs) old) n (sym w.end)

-- a text that grows by a line
pub grown : {a b l m : List ℕ} → a ≡ b → l ≡ m → a ++ l ≡ b ++ m
grown e f i = e i ++ f i
