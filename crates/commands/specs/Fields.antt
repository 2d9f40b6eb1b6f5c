-- What one word of a line says, or its fault.
use Rattle.std.specs.Prelude.{ℕ, cond, List, length, Some, None, Ok, Err, Option, Result, ok_or, ◌==◌, slice_index}
use Rattle.categories.specs.Handbook.{letter_of}
use Rattle.categories.specs.declared.handbook.HandbookCategory.{HandbookCategory}
use Rattle.kinds.specs.Handbook.{kind_of}
use Rattle.kinds.specs.declared.handbook.HandbookKind.{HandbookKind}
use Rattle.words.specs.Lines.{Placed}
use Rattle.words.specs.Numbers.{number_of}
use Rattle.words.specs.Sorts.{is_dash}
use Rattle.commands.specs.declared.fault.Fault.{Fault}
use Rattle.commands.specs.declared.fault.Why.{Why}
use Rattle.commands.specs.declared.fault.Why.TheVariants.{NotNumber, Unknown}
use Rattle.commands.specs.Faults.{fault}

-- what is found, or a fault at the word
abbrev pub found : {X : Type 0} → ℕ → ℕ → Why → Option X → Result X Fault
found line column why x = ok_or x (fault line column why)

abbrev pub number_in : ℕ → Placed → Result ℕ Fault
number_in line w = found line w.0 NotNumber (number_of w.1)

abbrev pub some : {X : Type 0} → Result X Fault → Result (Option X) Fault
some (Ok x) = Ok (Some x)
some (Err e) = Err e

-- a dash for none
abbrev pub label_in : ℕ → Placed → Result (Option ℕ) Fault
label_in line w = cond (is_dash w.1) (Ok None) (some (number_in line w))

abbrev pub category_of : List ℕ → Option HandbookCategory
category_of bs = cond (length bs == 1) (letter_of (slice_index bs 0)) None

abbrev pub category_in : ℕ → Placed → Result HandbookCategory Fault
category_in line w = found line w.0 Unknown (category_of w.1)

abbrev pub kind_in : ℕ → Placed → Result HandbookKind Fault
kind_in line w = found line w.0 Unknown (kind_of w.1)
