-- The lent memory of a package list.
use Rattle.std.specs.Prelude.{◌≡◌, List, length}
use Rattle.std.specs.Borrow.{MutBor}

-- the list still lends the slice that it was made over
pub record SameMemory {A : Type 0} (old new : MutBor (List A)) : Type 0 where
  pub lent : new.ghost_name ≡ old.ghost_name
  pub long : length new.now ≡ length old.now
