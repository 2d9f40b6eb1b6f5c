use Rattle.std.proofs.Common.{◌≡◌, ℕ, ◌+◌, List, ◌++◌, length, vec_items}
use Rattle.std.specs.Iterator.Adapters.{enumerate_source, enumerate_count}
use Rattle.packages.specs.Memory.{SameMemory}
use Rattle.sheet.specs.Views.{rows_of}
use Rattle.words.specs.Lines.{lines}
use Rattle.console.specs.Effects.{idle, standing}
use Rattle.console.specs.Transcripts.{Told}
use Rattle.console.proofs.transcribing.transcribe.Given as goal

abbrev pub invariant-loop-at : goal.invariant-loop-at
invariant-loop-at g l = record {
  room : length l.out ≡ 256;
  told : (rest : List ℕ) → Told g.P.Package.labeled (enumerate_count l.at-iterator + 1) (lines (enumerate_source l.at-iterator).0.now) (standing g.P.Package.labeled l.session) (rows_of g.P.Package l.list) rest
      → Told g.P.Package.labeled 1 (lines l.text) idle (rows_of g.P.Package l.initial.list) (vec_items l.all ++ rest);
  memory : SameMemory l.initial.list.places l.list.places;
}
