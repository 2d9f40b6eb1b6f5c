-- Whatever the label, what a printed table allows is within the bounds: one test of its rows shows it.
use Rattle.std.specs.Prelude.{◌≡◌, ℕ, ◌*◌, ◌^◌, ◌≤◌, Bool, true, nat_le, refl}
use Rattle.std.proofs.Common.{mul-le-mul, arith, lit≤}
use Rattle.std.proofs.lemmas.Bool.{leb-true}
use Rattle.std.proofs.lemmas.Bool.Decides.{nat_tests}
use Rattle.tables.proofs.Lookup.{passes}
use Rattle.kinds.specs.declared.entry.Entry.{Entry}
use Rattle.kinds.specs.declared.entry.Entry.TheVariants.{Fixed, Tenths, Whole}
use Rattle.kinds.specs.declared.handbook.HandbookKind.{HandbookKind}
use Rattle.kinds.specs.declared.handbook.HandbookKind.TheVariants.{Msi, Mus, Lsi, Cnt, Len, Are}
use Rattle.kinds.specs.Meaning.{InBounds}
use Rattle.kinds.specs.Entries.{allowed}
use Rattle.kinds.specs.Handbook.{entry}

abbrev small : Entry → Bool
small (Fixed units) = nat_le units (10 ^ 13)
small (Tenths tenths) = nat_le tenths 100
small (Whole tenths) = nat_le tenths 100

entry_small : (kind : HandbookKind) (label : ℕ) → small (entry kind label) ≡ true
entry_small Msi label = passes small _ _ label refl refl
entry_small Mus label = passes small _ _ label refl refl
entry_small Lsi label = passes small _ _ label refl refl
entry_small Cnt label = passes small _ _ label refl refl
entry_small Len label = passes small _ _ label refl refl
entry_small Are label = passes small _ _ label refl refl

share : (label tenths : ℕ) → label ≤ 10 ^ 11 → nat_le tenths 100 ≡ true → label * tenths ≤ 10 ^ 13
share label tenths u h = mul-le-mul u (leb-true tenths 100 h)

in_bounds : (entry : Entry) (label : ℕ) → label ≤ 10 ^ 11 → small entry ≡ true → InBounds (allowed entry label)
in_bounds (Fixed units) label u h =
    record { numerator = leb-true units (10 ^ 13) h; some = lit≤ tt; denominator = lit≤ tt }
in_bounds (Tenths tenths) label u h =
    record { numerator = share label tenths u h; some = lit≤ tt; denominator = lit≤ tt }
in_bounds (Whole tenths) label u h =
    record { numerator = let s = share label tenths u h in grind (arith, nat_tests); some = lit≤ tt; denominator = lit≤ tt }

pub handbook_bounds : (kind : HandbookKind) (label : ℕ) → label ≤ 10 ^ 11 → InBounds (allowed (entry kind label) label)
handbook_bounds kind label u = in_bounds (entry kind label) label u (entry_small kind label)
