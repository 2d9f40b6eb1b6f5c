-- What a reader has yet to hand out.
use Rattle.std.specs.Prelude.{List, drop}
use Rattle.words.specs.declared.reader.Reader.{Reader}
use Rattle.words.specs.Lines.{Placed, words}

-- the words of its line that lie ahead of it
abbrev pub ahead : Reader → List Placed
ahead r = words r.column (drop r.place r.text.now)
