-- What the entry of a printed row allows for a label, as numerator and denominator.
use Rattle.std.specs.Prelude.{ℕ, ◌*◌}
use Rattle.rounding.specs.Nearest.{nearest}
use Rattle.kinds.specs.declared.entry.Entry.{Entry}
use Rattle.kinds.specs.declared.entry.Entry.TheVariants.{Fixed, Tenths, Whole}

abbrev pub allowed : Entry → ℕ → ℕ × ℕ
allowed (Fixed units) label = (units, 1)
allowed (Tenths tenths) label = (label * tenths, 1000)
allowed (Whole tenths) label = (nearest (label * tenths) 1000, 1)
