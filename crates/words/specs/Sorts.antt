-- What a word is.
use Rattle.std.specs.Prelude.{◌≡◌, ℕ, Bool, true, false, cond, List, Some, None, codes, Option}
use Rattle.std.specs.Borrow.{Bor}
use Rattle.std.specs.Str.{bytes_eq}
use Rattle.words.specs.declared.word.Verb.{Verb}
use Rattle.words.specs.declared.word.Verb.TheVariants.{Lot, Wt, Fix, Del, Op, Set, Re, End}
use Rattle.words.specs.declared.word.Word.{Word}
use Rattle.words.specs.declared.word.Word.TheVariants.{Command, Number, Dash, Other}
use Rattle.words.specs.Numbers.{number_of}

abbrev pub name_of : Verb → List ℕ
name_of Lot = codes "lot"
name_of Wt = codes "wt"
name_of Fix = codes "fix"
name_of Del = codes "del"
name_of Op = codes "op"
name_of Set = codes "set"
name_of Re = codes "re"
name_of End = codes "end"

abbrev named : List ℕ → Verb → Option Verb → Option Verb
named bs v other = cond (bytes_eq bs (name_of v)) (Some v) other

abbrev pub verb_of : List ℕ → Option Verb
verb_of bs = named bs Lot (named bs Wt (named bs Fix (named bs Del (named bs Op (named bs Set (named bs Re (named bs End None)))))))

abbrev pub is_dash : List ℕ → Bool
is_dash bs = bytes_eq bs (codes "-")

-- a word is one of the four, and none of the others
abbrev pub Sorted : Bor (List ℕ) → Word → Type 0
Sorted w (Command part verb) = (part ≡ w) × (verb_of w.now ≡ Some verb) × (number_of w.now ≡ None) × (is_dash w.now ≡ false)
Sorted w (Number part n) = (part ≡ w) × (verb_of w.now ≡ None) × (number_of w.now ≡ Some n) × (is_dash w.now ≡ false)
Sorted w (Dash part) = (part ≡ w) × (verb_of w.now ≡ None) × (number_of w.now ≡ None) × (is_dash w.now ≡ true)
Sorted w (Other part) = (part ≡ w) × (verb_of w.now ≡ None) × (number_of w.now ≡ None) × (is_dash w.now ≡ false)
