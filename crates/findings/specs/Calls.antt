-- What is said of a call and its answer.
use Rattle.std.specs.Prelude.{◌≡◌, ℕ, List, [], ◌∷◌, ◌++◌, codes, decimal, Some, None, Option}
use Rattle.std.specs.Char.{encode_utf8}
use Rattle.commands.specs.declared.command.Command as command
use Rattle.console.specs.declared.denial.Denial.{Denial}
use Rattle.console.specs.Denials.{account}
use Rattle.history.specs.declared.entry.Entry as entry
use Rattle.sheet.specs.declared.call.Call.TheVariants.{Weigh, Correct, Strike, Open, Settle, Reopen}
use Rattle.words.specs.declared.word.Verb.{Verb}
use Rattle.words.specs.declared.word.Verb.TheVariants as verb
use Rattle.words.specs.Sorts.{name_of}
use Rattle.findings.specs.declared.asked.Asked.{Asked}

-- the verb of a command, and the place that it names
abbrev pub verb_of : command.Command → Verb
verb_of (command.TheVariants.Lot category kind lot) = verb.Lot
verb_of (command.TheVariants.Call (Weigh place gross label)) = verb.Wt
verb_of (command.TheVariants.Call (Correct place gross label)) = verb.Fix
verb_of (command.TheVariants.Call (Strike place)) = verb.Del
verb_of (command.TheVariants.Call (Open place tare)) = verb.Op
verb_of (command.TheVariants.Call Settle) = verb.Set
verb_of (command.TheVariants.Call Reopen) = verb.Re
verb_of command.TheVariants.End = verb.End

abbrev pub place_of : command.Command → Option ℕ
place_of (command.TheVariants.Lot category kind lot) = None
place_of (command.TheVariants.Call (Weigh place gross label)) = Some place
place_of (command.TheVariants.Call (Correct place gross label)) = Some place
place_of (command.TheVariants.Call (Strike place)) = Some place
place_of (command.TheVariants.Call (Open place tare)) = Some place
place_of (command.TheVariants.Call Settle) = None
place_of (command.TheVariants.Call Reopen) = None
place_of command.TheVariants.End = None

-- it has the name of the command's verb, and its place
abbrev pub IsAskedBy : command.Command → Asked → Type 0
IsAskedBy c asked = (asked.verb.now ≡ name_of (verb_of c)) × (asked.place ≡ place_of c)

-- an entry as a command
abbrev pub command_of : entry.Entry → command.Command
command_of (entry.TheVariants.Call c) = command.TheVariants.Call c
command_of entry.TheVariants.Close = command.TheVariants.End

abbrev pub IsEntered : entry.Entry → Asked → Type 0
IsEntered e asked = IsAskedBy (command_of e) asked

abbrev pub asked_text : List ℕ → Option ℕ → List ℕ
asked_text name (Some place) = name ++ (codes " " ++ decimal place)
asked_text name None = name

-- how many packages are to be opened, where that is what was missing
abbrev pub total_text : List ℕ → List ℕ
total_text [] = []
total_text (total ∷ more) = codes ", " ++ (decimal total ++ codes " to open")

abbrev pub denied_text : Denial → List ℕ
denied_text denial =
    codes "refused " ++ (encode_utf8 (account denial).letter ++ (codes " " ++ (decimal (account denial).number ++ total_text (account denial).values)))

abbrev pub answer_text : Option Denial → List ℕ
answer_text None = codes "accepted"
answer_text (Some denial) = denied_text denial
