-- What a place of the package list holds.
use Rattle.std.specs.Prelude.{ℕ, zero, suc, Bool, if◌then◌else◌, List, [], ◌∷◌, Some, None, Option, unwrap_or}
use Rattle.packages.specs.declared.reading.Reading.{Reading}
use Rattle.packages.specs.declared.reading.Reading.TheVariants.{Empty, Weighed, Opened}

-- a place by its gross weight, label and tare, each if any
abbrev pub read : Option ℕ → Option ℕ → Option ℕ → Reading
read None label tare = Empty
read (Some gross) label None = Weighed gross label
read (Some gross) label (Some tare) = Opened gross label tare

-- what a place holds, each if any
abbrev pub held_gross : Reading → Option ℕ
held_gross Empty = None
held_gross (Weighed gross label) = Some gross
held_gross (Opened gross label tare) = Some gross

abbrev pub held_tare : Reading → Option ℕ
held_tare Empty = None
held_tare (Weighed gross label) = None
held_tare (Opened gross label tare) = Some tare

abbrev pub own_label : Reading → Option ℕ
own_label Empty = None
own_label (Weighed gross label) = label
own_label (Opened gross label tare) = label

-- the weights, 0 where there is none
abbrev pub gross_of : Reading → ℕ
gross_of reading = unwrap_or (held_gross reading) 0

abbrev pub tare_of : Reading → ℕ
tare_of reading = unwrap_or (held_tare reading) 0

abbrev pub unlabeled : Reading → Reading
unlabeled Empty = Empty
unlabeled (Weighed gross label) = Weighed gross None
unlabeled (Opened gross label tare) = Opened gross None tare

-- what a record keeps of a reading: one that has no room for a label drops it
abbrev pub stored : Bool → Reading → Reading
stored labeled reading = if labeled then reading else unlabeled reading

-- the list with its first places emptied
abbrev pub emptied : ℕ → List Reading → List Reading
emptied zero rows = rows
emptied (suc n) [] = []
emptied (suc n) (row ∷ rows) = Empty ∷ emptied n rows
