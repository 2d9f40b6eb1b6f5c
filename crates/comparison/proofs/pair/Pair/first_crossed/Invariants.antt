use Rattle.std.proofs.Common.{ℕ, ◌<◌, length, None}
use Rattle.comparison.specs.Rises.{CrossedWith}
use Rattle.comparison.proofs.pair.Pair.first_crossed.Given as goal

abbrev pub invariant-loop-j : goal.invariant-loop-j
invariant-loop-j l = (j : ℕ) → j < length l.yielded → CrossedWith l.self.first.now l.self.second.now j None
