use Rattle.std.proofs.Common.{◌≡◌, take}
use Rattle.words.specs.Numbers.{read_on}
use Rattle.words.proofs.numbers.read_number.Given as goal

abbrev pub invariant-loop-byte : goal.invariant-loop-byte
invariant-loop-byte l = l.number ≡ read_on 0 (take l.byte-index l.bytes)
