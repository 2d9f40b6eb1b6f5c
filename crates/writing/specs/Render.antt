-- How a command is written.
use Rattle.std.specs.Prelude.{ℕ, Bool, true, ◌&&◌, List, [], ◌∷◌, Some, None, codes, decimal, Option, nat_le}
use Rattle.std.specs.Option.{option_to_list}
use Rattle.categories.specs.declared.handbook.HandbookCategory.{HandbookCategory}
use Rattle.categories.specs.declared.handbook.HandbookCategory.TheVariants.{A, B, C}
use Rattle.commands.specs.declared.command.Command as command
use Rattle.kinds.specs.Handbook.{word}
use Rattle.sheet.specs.declared.call.Call.TheVariants.{Weigh, Correct, Strike, Open, Settle, Reopen}
use Rattle.words.specs.declared.word.Verb.TheVariants as verb
use Rattle.words.specs.Sorts.{name_of}
use Rattle.writing.specs.Bytes.{line}

abbrev pub letter : HandbookCategory → List ℕ
letter A = codes "A"
letter B = codes "B"
letter C = codes "C"

-- a label that may be left out, and one with a dash for none
abbrev pub optional : Option ℕ → List (List ℕ)
optional None = []
optional (Some n) = decimal n ∷ []

abbrev pub dashed : Option ℕ → List ℕ
dashed None = codes "-"
dashed (Some n) = decimal n

abbrev pub words_of : command.Command → List (List ℕ)
words_of (command.TheVariants.Lot category kind lot) =
    name_of verb.Lot ∷ letter category ∷ word kind ∷ decimal lot.size ∷ decimal lot.division ∷ dashed lot.label ∷ decimal lot.allowance ∷ []
words_of (command.TheVariants.Call (Weigh place gross label)) = name_of verb.Wt ∷ decimal place ∷ decimal gross ∷ optional label
words_of (command.TheVariants.Call (Correct place gross label)) = name_of verb.Fix ∷ decimal place ∷ decimal gross ∷ optional label
words_of (command.TheVariants.Call (Strike place)) = name_of verb.Del ∷ decimal place ∷ []
words_of (command.TheVariants.Call (Open place tare)) = name_of verb.Op ∷ decimal place ∷ decimal tare ∷ []
words_of (command.TheVariants.Call Settle) = name_of verb.Set ∷ []
words_of (command.TheVariants.Call Reopen) = name_of verb.Re ∷ []
words_of command.TheVariants.End = name_of verb.End ∷ []

-- single spaces and one line feed
abbrev pub render : command.Command → List ℕ
render c = line (words_of c)

abbrev pub numbers_of : command.Command → List ℕ
numbers_of (command.TheVariants.Lot category kind lot) = lot.size ∷ lot.division ∷ lot.allowance ∷ option_to_list lot.label
numbers_of (command.TheVariants.Call (Weigh place gross label)) = place ∷ gross ∷ option_to_list label
numbers_of (command.TheVariants.Call (Correct place gross label)) = place ∷ gross ∷ option_to_list label
numbers_of (command.TheVariants.Call (Strike place)) = place ∷ []
numbers_of (command.TheVariants.Call (Open place tare)) = place ∷ tare ∷ []
numbers_of (command.TheVariants.Call Settle) = []
numbers_of (command.TheVariants.Call Reopen) = []
numbers_of command.TheVariants.End = []

abbrev pub all_small : List ℕ → Bool
all_small [] = true
all_small (n ∷ ns) = nat_le n 999999999 && all_small ns

-- no number of the command has more than nine digits
abbrev pub writable : command.Command → Bool
writable c = all_small (numbers_of c)
