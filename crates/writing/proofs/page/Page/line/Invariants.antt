use Rattle.std.proofs.Common.{◌≡◌, ◌+◌, ◌≤◌, ◌∷◌, ◌++◌, take, drop, sum_by, flat_map}
use Rattle.arrayvec.specs.ArrayVec.{array_vec_len}
use Rattle.writing.specs.Words.{text_of, room_of}
use Rattle.writing.proofs.page.Page.line.Given as goal

abbrev pub invariant-loop-word : goal.invariant-loop-word
invariant-loop-word g l = record {
  text : l.self.bytes.items ≡ l.initial.self.bytes.items ++ flat_map (λ w. 32 ∷ text_of w) (take l.word-index l.others);
  room : array_vec_len l.self.bytes + 1 + sum_by room_of (drop l.word-index l.others) ≤ array_vec_len l.fn.self.bytes + sum_by room_of (l.first ∷ l.others);
}
