-- The lines of a text, and the words of a line. A space parts words and a line feed ends a line; every other byte stands in a word.
use Rattle.std.specs.Prelude.{ℕ, ◌+◌, Bool, true, false, cond, not, ◌&&◌, List, [], ◌∷◌, take, drop, ◌==◌, nat_eq}
use Rattle.std.specs.List.{prefix_len}

abbrev pub in_word : ℕ → Bool
in_word b = not (b == 32) && not (b == 10)

-- how many spaces stand at the front
abbrev pub gap : List ℕ → ℕ
gap bs = prefix_len (λ b. nat_eq b 32) bs

abbrev pub word_length : List ℕ → ℕ
word_length bs = prefix_len in_word bs

-- where the first word at or after a place begins, and where it ends; both behind the spaces where the line has no more words
abbrev pub start : List ℕ → ℕ → ℕ
start text place = place + gap (drop place text)

abbrev pub stop : List ℕ → ℕ → ℕ
stop text place = start text place + word_length (drop (start text place) text)

abbrev pub line_length : List ℕ → ℕ
line_length bs = prefix_len (λ b. not (b == 10)) bs

-- a word, with the column of its first byte
abbrev pub Placed : Type 0
Placed = ℕ × List ℕ

-- A word begins at a byte that stands in a word and follows none that does; it reaches to the next space, line feed or end.
abbrev pub words_after : Bool → ℕ → List ℕ → List Placed
words_after inside column [] = []
words_after inside column (b ∷ bs) =
    cond (b == 10) [] (
    cond (b == 32) (words_after false (column + 1) bs) (
    cond inside (words_after true (column + 1) bs) ((column, take (word_length (b ∷ bs)) (b ∷ bs)) ∷ words_after true (column + 1) bs)))

-- the words of a line, from a column on
abbrev pub words : ℕ → List ℕ → List Placed
words column bs = words_after false column bs

abbrev pub in_front : ℕ → List (List ℕ) → List (List ℕ)
in_front b [] = (b ∷ []) ∷ []
in_front b (l ∷ ls) = (b ∷ l) ∷ ls

-- the lines of a text: each ends with a line feed or with the text
abbrev pub lines : List ℕ → List (List ℕ)
lines [] = []
lines (b ∷ bs) = cond (b == 10) ([] ∷ lines bs) (in_front b (lines bs))
