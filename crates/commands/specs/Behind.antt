-- The words behind a line's command.
use Rattle.std.specs.Prelude.{◌≡◌, List, Option}
use Rattle.std.specs.Iterator.{YieldsFirstBy}
use Rattle.words.specs.declared.reader.Part.{Part}
use Rattle.words.specs.Lines.{Placed}
use Rattle.words.specs.Reading.{ahead}
use Rattle.commands.specs.declared.line.Line.{Line}

abbrev pub placed : Part → Placed
placed part = (part.column, part.bytes.now)

-- those that are not yet taken
abbrev pub behind : Line → List Placed
behind line = ahead line.reader

-- the first of them is taken, and the command stays
abbrev pub NextWord : Line → Option Part → Line → Type 0
NextWord old word new = YieldsFirstBy placed behind old word new × (new.first ≡ old.first)
