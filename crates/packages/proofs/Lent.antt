-- The lent memory over two steps.
use Rattle.std.proofs.Common.{List, ◌∙◌}
use Rattle.std.specs.Borrow.{MutBor}
use Rattle.packages.specs.Memory.{SameMemory}

pub same_memory_trans : {A : Type 0} (a b c : MutBor (List A)) → SameMemory a b → SameMemory b c → SameMemory a c
same_memory_trans a b c h k = record { lent = k.lent ∙ h.lent; long = k.long ∙ h.long }
