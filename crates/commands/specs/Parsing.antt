-- What a line asks for, by the questions in their order: its length, its command, its count of words, its numbers, its names.
use Rattle.std.specs.Prelude.{ℕ, Bool, cond, ◌||◌, List, [], ◌∷◌, length, Some, None, Ok, Err, Option, Result, ◌==◌, nat_lt, slice_index_or}
use Rattle.sheet.specs.declared.call.Call.TheVariants.{Weigh, Correct, Strike, Open, Settle, Reopen}
use Rattle.words.specs.declared.word.Verb.{Verb}
use Rattle.words.specs.declared.word.Verb.TheVariants.{Lot, Wt, Fix, Del, Op, Set, Re, End}
use Rattle.words.specs.Lines.{Placed, words}
use Rattle.words.specs.Sorts.{verb_of}
use Rattle.commands.specs.declared.command.Command.{Command}
use Rattle.commands.specs.declared.command.Command.TheVariants as command
use Rattle.commands.specs.declared.fault.Fault.{Fault}
use Rattle.commands.specs.declared.fault.Why.TheVariants.{TooLong, NotCommand, Miscounted}
use Rattle.commands.specs.declared.line.Line.{Line}
pub use Rattle.commands.specs.Behind.{placed}
use Rattle.commands.specs.Behind.{behind}
use Rattle.commands.specs.Faults.{fault}
use Rattle.commands.specs.Fields.{some, number_in, label_in, category_in, kind_in}

-- what follows a part that was read, or its fault
infixl 10 ◌>>=◌
abbrev pub ◌>>=◌ : {X Y : Type 0} → Result X Fault → (X → Result Y Fault) → Result Y Fault
Ok x >>= next = next x
Err e >>= next = Err e

-- how many words follow the command
abbrev pub counts : Verb → ℕ → Bool
counts Lot n = n == 6
counts Wt n = n == 2 || n == 3
counts Fix n = n == 2 || n == 3
counts Del n = n == 1
counts Op n = n == 2
counts Set n = n == 0
counts Re n = n == 0
counts End n = n == 0

abbrev pub at : List Placed → ℕ → Placed
at ws i = slice_index_or ws i (0, [])

-- category, kind, size, division, label, allowance; the numbers are asked before the names
abbrev pub lot_from : ℕ → Placed → Placed → Placed → Placed → Placed → Placed → Result Command Fault
lot_from line c k n d l a = do
  size ← number_in line n
  division ← number_in line d
  label ← label_in line l
  allowance ← number_in line a
  category ← category_in line c
  kind ← kind_in line k
  Ok (command.Lot category kind (record { size = size; division = division; label = label; allowance = allowance }))

-- place, gross, and a label if one is given
abbrev pub weight_from : ℕ → Placed → Placed → Result (Option ℕ) Fault → Result (ℕ × ℕ × Option ℕ) Fault
weight_from line p g l = do
  place ← number_in line p
  gross ← number_in line g
  label ← l
  Ok (place, gross, label)

abbrev pub weight_by : ℕ → List Placed → Result (ℕ × ℕ × Option ℕ) Fault
weight_by line ws = weight_from line (at ws 0) (at ws 1) (cond (length ws == 3) (some (number_in line (at ws 2))) (Ok None))

abbrev pub filled : ℕ → Verb → List Placed → Result Command Fault
filled line Lot ws = lot_from line (at ws 0) (at ws 1) (at ws 2) (at ws 3) (at ws 4) (at ws 5)
filled line Wt ws = do
  weight ← weight_by line ws
  Ok (command.Call (Weigh weight.0 weight.1 weight.2))
filled line Fix ws = do
  weight ← weight_by line ws
  Ok (command.Call (Correct weight.0 weight.1 weight.2))
filled line Del ws = do
  place ← number_in line (at ws 0)
  Ok (command.Call (Strike place))
filled line Op ws = do
  place ← number_in line (at ws 0)
  tare ← number_in line (at ws 1)
  Ok (command.Call (Open place tare))
filled line Set ws = Ok (command.Call Settle)
filled line Re ws = Ok (command.Call Reopen)
filled line End ws = Ok command.End

-- what the words behind a command say, if they are as many as it has
abbrev pub counted : {X : Type 0} → ℕ → ℕ → Verb → List Placed → Result X Fault → Result X Fault
counted line column verb ws said = cond (counts verb (length ws)) said (Err (fault line column Miscounted))

abbrev pub read_as : ℕ → ℕ → Verb → List Placed → Result Command Fault
read_as line column verb ws = counted line column verb ws (filled line verb ws)

abbrev pub by_verb : ℕ → ℕ → Option Verb → List Placed → Result Command Fault
by_verb line column None ws = Err (fault line column NotCommand)
by_verb line column (Some verb) ws = read_as line column verb ws

-- none for a blank line
abbrev pub by_words : ℕ → List Placed → Result (Option Command) Fault
by_words line [] = Ok None
by_words line (w ∷ ws) = some (by_verb line w.0 (verb_of w.1) ws)

-- a line, with its number
abbrev pub reading : ℕ → List ℕ → Result (Option Command) Fault
reading line text = cond (nat_lt 65536 (length text)) (Err (fault 1 1 TooLong)) (by_words line (words 1 text))

-- the same of a line that is taken word by word: what it says as a command, as a weighing, and as one that stands alone
abbrev pub read_line : Line → Verb → Result Command Fault
read_line line verb = read_as line.first.line line.first.column verb (behind line)

abbrev pub weighed_by : Line → Result (ℕ × ℕ × Option ℕ) Fault
weighed_by line = counted line.first.line line.first.column Wt (behind line) (weight_by line.first.line (behind line))

abbrev pub alone_by : Line → Command → Result Command Fault
alone_by line c = counted line.first.line line.first.column Set (behind line) (Ok c)
