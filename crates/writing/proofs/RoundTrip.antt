-- What is written for a command reads back as that command.
use Rattle.std.proofs.Common.{◌≡◌, ℕ, suc, ◌+◌, ◌*◌, ◌<◌, ◌≤◌, true, false, ◌⊎◌, List, [], ◌∷◌, ◌++◌, length, get_or, take, drop, Some, None, Ok, Err, decimal, Option, Result, sym, refl, ap, ◌∙◌, inl, inr, ⊎_elim, append_assoc, one-add, arith, length-append}
use Rattle.std.specs.Option.{option_to_list}
use Rattle.std.specs.Str.{all_ascii_digits}
use Rattle.std.proofs.lemmas.List.{take_at, drop_at}
use Rattle.std.proofs.lemmas.Fmt.{digits_decimal, digits_value-decimal, length-decimal-le, decimal_nonempty, first_decimal, decimal_digit}
use Rattle.std.proofs.lemmas.Bool.{cases_Bool, cond-true, cond-false, and_parts, and_from, not_from_false, ne_eqb, leb-true, le-ltb, cases_lt}
use Rattle.categories.specs.declared.handbook.HandbookCategory.{HandbookCategory}
use Rattle.categories.specs.declared.handbook.HandbookCategory.TheVariants.{A, B, C}
use Rattle.kinds.specs.Handbook.{word, kind_of}
use Rattle.kinds.specs.declared.handbook.HandbookKind.{HandbookKind}
use Rattle.kinds.specs.declared.handbook.HandbookKind.TheVariants.{Msi, Mus, Lsi, Cnt, Len, Are}
use Rattle.sheet.specs.declared.call.Call.TheVariants.{Weigh, Correct, Strike, Open, Settle, Reopen}
use Rattle.commands.specs.declared.command.Command.{Command}
use Rattle.commands.specs.declared.command.Command.TheVariants.{Lot, Call, End}
use Rattle.commands.specs.declared.fault.Fault.{Fault}
use Rattle.commands.specs.Fields.{label_in, category_of}
use Rattle.commands.specs.Parsing.{by_words, reading}
use Rattle.words.specs.Lines.{Placed, in_word, word_length, words}
use Rattle.words.specs.Numbers.{number_of}
use Rattle.words.proofs.Own.{own}
use Rattle.words.proofs.Digits.{fits_number}
use Rattle.words.proofs.Apart.{number_apart}
use Rattle.words.proofs.WordLaws.{at_word}
use Rattle.writing.specs.Bytes.{spaced, line}
use Rattle.writing.specs.Render.{letter, dashed, words_of, render, numbers_of, all_small, writable}

-- a word that can stand in a line, and is short
abbrev Good : List ℕ → Type 0
Good w = (0 < length w) × (length w ≤ 9) × (word_length w ≡ length w)

abbrev AllGood : List (List ℕ) → Type 0
AllGood [] = Unit {0}
AllGood (w ∷ ws) = Good w × AllGood ws

abbrev Smalls : List ℕ → Type 0
Smalls [] = Unit {0}
Smalls (n ∷ ns) = (n ≤ 999999999) × Smalls ns

smalls : (ns : List ℕ) → all_small ns ≡ true → Smalls ns
smalls [] p = tt
smalls (n ∷ ns) p = let h = and_parts _ _ p in (leb-true _ _ h.0, smalls ns h.1)

-- words with their columns
abbrev numbered : ℕ → List (List ℕ) → List Placed
numbered c [] = []
numbered c (w ∷ ws) = (c, w) ∷ numbered (c + length w + 1) ws

word_front : (w : List ℕ) (t : ℕ) (rest : List ℕ) → in_word t ≡ false → word_length w ≡ length w → word_length (w ++ t ∷ rest) ≡ length w
word_front [] t rest n e = cond-false _ _ _ n
word_front (b ∷ w) t rest n e =
    ⊎_elim
    (λ y. let more : word_length (b ∷ w) ≡ 1 + word_length w = cond-true _ _ _ y in
    cond-true _ _ _ y ∙ ap (λ k. 1 + k) (word_front w t rest n (omega arith)) ∙ one-add _)
    (λ f. let none : word_length (b ∷ w) ≡ 0 = cond-false _ _ _ f in absurd (omega arith))
    (cases_Bool (in_word b))

word_then : (c : ℕ) (w : List ℕ) (t : ℕ) (rest : List ℕ) → in_word t ≡ false → Good w → words c (w ++ t ∷ rest) ≡ (c, w) ∷ words (c + length w) (t ∷ rest)
word_then c w t rest n good =
    let e = word_front w t rest n good.2 in
    at_word c (w ++ t ∷ rest) (omega (arith, good.0, e))
    ∙ (λ i. (c, take (e i) (w ++ t ∷ rest)) ∷ words (c + e i) (drop (e i) (w ++ t ∷ rest)))
    ∙ (λ i. (c, take_at w (t ∷ rest) (length w) refl i) ∷ words (c + length w) (drop_at w (t ∷ rest) (length w) refl i))

words_line : (c : ℕ) (ws : List (List ℕ)) → AllGood ws → words c (line ws) ≡ numbered c ws
words_line c [] g = refl
words_line c (w ∷ []) g = word_then c w 10 [] refl g.0
words_line c (w ∷ v ∷ ws) g =
    ap (words c) (append_assoc w (32 ∷ spaced (v ∷ ws)) (10 ∷ []))
    ∙ word_then c w 32 (line (v ∷ ws)) refl g.0
    ∙ ap (λ l. (c, w) ∷ l) (words_line (c + length w + 1) (v ∷ ws) g.1)

short_spaced : (ws : List (List ℕ)) → AllGood ws → length (spaced ws) ≤ 10 * length ws
short_spaced [] g = omega arith
short_spaced (w ∷ []) g = omega (arith, g.0.1)
short_spaced (w ∷ v ∷ ws) g = omega (arith, g.0.1, short_spaced (v ∷ ws) g.1, length-append w (32 ∷ spaced (v ∷ ws)))

digit_in : (d : ℕ) → 48 ≤ d → in_word d ≡ true
digit_in d h = and_from _ _ (not_from_false _ (ne_eqb d 32 (λ e. omega arith))) (not_from_false _ (ne_eqb d 10 (λ e. omega arith)))

digits_in : (ds : List ℕ) → all_ascii_digits ds ≡ true → word_length ds ≡ length ds
digits_in [] p = refl
digits_in (d ∷ ds) p =
    let h = and_parts _ _ p in
    cond-true _ _ _ (digit_in d (leb-true _ _ (and_parts _ _ h.0).0)) ∙ one-add _ ∙ ap suc (digits_in ds h.1)

good_decimal : (n : ℕ) → n ≤ 999999999 → Good (decimal n)
good_decimal n h =
    (decimal_nonempty n (omega arith), length-decimal-le 9 n (omega arith) (omega arith) (omega arith), digits_in (decimal n) (digits_decimal own n (omega arith)))

abbrev decimals : List ℕ → List (List ℕ)
decimals [] = []
decimals (n ∷ ns) = decimal n ∷ decimals ns

good_decimals : (ns : List ℕ) → Smalls ns → AllGood (decimals ns)
good_decimals [] s = tt
good_decimals (n ∷ ns) s = (good_decimal n s.0, good_decimals ns s.1)

number_decimal : (n : ℕ) → n ≤ 999999999 → number_of (decimal n) ≡ Some n
number_decimal n h =
    let lead : ((get_or (decimal n) 0 0 ≡ 48) × (length (decimal n) ≤ 1)) ⊎ (get_or (decimal n) 0 0 ≡ 48 → ⊥) =
    ⊎_elim
    (λ some. inr (λ e. omega (arith, first_decimal n some (omega arith))))
    (λ none. let one = decimal_digit n (omega arith) in inl (ap (λ l. get_or l 0 0) one ∙ omega arith, omega (arith, ap length one)))
    (cases_lt 0 n)
    in
    cond-true _ _ _ (fits_number (decimal n) (digits_decimal own n (omega arith)) (good_decimal n h).0 (good_decimal n h).1 lead)
    ∙ ap Some (digits_value-decimal own n (omega arith))

good_letter : (c : HandbookCategory) → Good (letter c)
good_letter A = (omega arith, omega arith, refl)
good_letter B = (omega arith, omega arith, refl)
good_letter C = (omega arith, omega arith, refl)

good_kind : (k : HandbookKind) → Good (word k)
good_kind Msi = (omega arith, omega arith, refl)
good_kind Mus = (omega arith, omega arith, refl)
good_kind Lsi = (omega arith, omega arith, refl)
good_kind Cnt = (omega arith, omega arith, refl)
good_kind Len = (omega arith, omega arith, refl)
good_kind Are = (omega arith, omega arith, refl)

good_label : (l : Option ℕ) → Smalls (option_to_list l) → Good (dashed l)
good_label None s = (omega arith, omega arith, refl)
good_label (Some n) s = good_decimal n s.0

letter_reads : (c : HandbookCategory) → category_of (letter c) ≡ Some c
letter_reads A = refl
letter_reads B = refl
letter_reads C = refl

kind_reads : (k : HandbookKind) → kind_of (word k) ≡ Some k
kind_reads Msi = refl
kind_reads Mus = refl
kind_reads Lsi = refl
kind_reads Cnt = refl
kind_reads Len = refl
kind_reads Are = refl

label_reads : (at column : ℕ) (l : Option ℕ) → Smalls (option_to_list l) → label_in at (column, dashed l) ≡ Ok l
label_reads at column None s = refl
label_reads at column (Some n) s =
    let e = number_decimal n s.0 in
    rw (number_apart (decimal n) n e, e)

good_words : (c : Command) → Smalls (numbers_of c) → AllGood (words_of c)
good_words (Lot c k lot) s = (
  (omega arith, omega arith, refl),
  (
    good_letter c,
    (
      good_kind k,
      (
        good_decimal lot.size s.0,
        (
          good_decimal lot.division s.1.0,
          (good_label lot.label s.1.1.1, (good_decimal lot.allowance s.1.1.0, tt)),
        ),
      ),
    ),
  ),
)
good_words (Call (Weigh p g None)) s = ((omega arith, omega arith, refl), good_decimals (p ∷ g ∷ []) s)
good_words (Call (Weigh p g (Some n))) s = ((omega arith, omega arith, refl), good_decimals (p ∷ g ∷ n ∷ []) s)
good_words (Call (Correct p g None)) s = ((omega arith, omega arith, refl), good_decimals (p ∷ g ∷ []) s)
good_words (Call (Correct p g (Some n))) s = ((omega arith, omega arith, refl), good_decimals (p ∷ g ∷ n ∷ []) s)
good_words (Call (Strike p)) s = ((omega arith, omega arith, refl), good_decimals (p ∷ []) s)
good_words (Call (Open p t)) s = ((omega arith, omega arith, refl), good_decimals (p ∷ t ∷ []) s)
good_words (Call Settle) s = ((omega arith, omega arith, refl), tt)
good_words (Call Reopen) s = ((omega arith, omega arith, refl), tt)
good_words End s = ((omega arith, omega arith, refl), tt)

few_words : (c : Command) → length (words_of c) ≤ 7
few_words (Lot c k lot) = omega arith
few_words (Call (Weigh p g None)) = omega arith
few_words (Call (Weigh p g (Some n))) = omega arith
few_words (Call (Correct p g None)) = omega arith
few_words (Call (Correct p g (Some n))) = omega arith
few_words (Call (Strike p)) = omega arith
few_words (Call (Open p t)) = omega arith
few_words (Call Settle) = omega arith
few_words (Call Reopen) = omega arith
few_words End = omega arith

reads_back : (at : ℕ) (c : Command) → Smalls (numbers_of c) → by_words at (numbered 1 (words_of c)) ≡ Ok (Some c)
reads_back at (Lot c k lot) s =
    rw (
      number_decimal lot.size s.0,
      number_decimal lot.division s.1.0,
      label_reads at _ lot.label s.1.1.1,
      number_decimal lot.allowance s.1.1.0,
      letter_reads c,
      kind_reads k,
    )
reads_back at (Call (Weigh p g None)) s = rw (number_decimal p s.0, number_decimal g s.1.0)
reads_back at (Call (Weigh p g (Some n))) s = rw (number_decimal p s.0, number_decimal g s.1.0, number_decimal n s.1.1.0)
reads_back at (Call (Correct p g None)) s = rw (number_decimal p s.0, number_decimal g s.1.0)
reads_back at (Call (Correct p g (Some n))) s = rw (number_decimal p s.0, number_decimal g s.1.0, number_decimal n s.1.1.0)
reads_back at (Call (Strike p)) s = rw (number_decimal p s.0)
reads_back at (Call (Open p t)) s = rw (number_decimal p s.0, number_decimal t s.1.0)
reads_back at (Call Settle) s = refl
reads_back at (Call Reopen) s = refl
reads_back at End s = refl

pub round_trip : (at : ℕ) (c : Command) → writable c ≡ true → reading at (render c) ≡ Ok (Some c)
round_trip at c w =
    let s = smalls (numbers_of c) w in
    let g = good_words c s in
    cond-false _ _ _ (le-ltb 65536 (length (render c)) (omega (arith, short_spaced (words_of c) g, few_words c, length-append (spaced (words_of c)) (10 ∷ []))))
    ∙ ap (by_words at) (words_line 1 (words_of c) g)
    ∙ reads_back at c s

abbrev said : Result (Option Command) Fault → Command
said (Ok (Some c)) = c
said (Ok None) = End
said (Err e) = End

pub apart : (c d : Command) → writable c ≡ true → writable d ≡ true → render c ≡ render d → c ≡ d
apart c d v w e = ap said (sym (round_trip 1 c v) ∙ ap (reading 1) e ∙ round_trip 1 d w)
