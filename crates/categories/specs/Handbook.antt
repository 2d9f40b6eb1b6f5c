-- The three categories of the handbook.
use Rattle.std.specs.Prelude.{ℕ, Bool, true, false, if◌then◌else◌, not, ◌&&◌, List, Some, None, Option, ◌==◌, nat_le, nat_lt}
use Rattle.decision.specs.declared.rule.Counted.{Counted}
use Rattle.decision.specs.declared.rule.Counted.TheVariants.{Unreasonable, Short}
use Rattle.kinds.specs.Handbook.{weight, count}
use Rattle.tables.specs.Rows.{reached, ascending}
use Rattle.categories.specs.declared.handbook.HandbookCategory.{HandbookCategory}
use Rattle.categories.specs.declared.handbook.HandbookCategory.TheVariants.{A, B, C}
use Rattle.categories.specs.declared.plan.Plan.{Plan}
use Rattle.categories.specs.declared.plan.Row.{Row}
use Rattle.categories.specs.Meaning.{Sampling}
use Rattle.categories.specs.Printed as printed

-- the category that a letter names
abbrev pub letter_of : ℕ → Option HandbookCategory
letter_of letter = if letter == 65 then Some A else (if letter == 66 then Some B else (if letter == 67 then Some C else None))

-- a count label of 50 or less
abbrev pub low_count : List ℕ → ℕ → Bool
low_count name label = count name && nat_le label 50

-- A takes every lot but low counts, B takes weights in lots of 10 or more, C takes low counts
abbrev pub takes : HandbookCategory → ℕ → List ℕ → ℕ → Bool
takes A size name label = not (size == 0) && not (low_count name label)
takes B size name label = nat_le 10 size && weight name
takes C size name label = not (size == 0) && low_count name label

-- the printed table of sampling plans, and the row past its end
abbrev pub rows : HandbookCategory → List (ℕ × Row)
rows A = printed.a
rows B = printed.b
rows C = printed.c

abbrev pub past : HandbookCategory → Row
past A = printed.a_past
past B = printed.b_past
past C = printed.c_past

-- the first printed row that reaches the lot
abbrev pub row_of : HandbookCategory → ℕ → Row
row_of category = reached (rows category) (past category)

-- A needs two packages for an average, B always has it, C never
abbrev pub average : HandbookCategory → ℕ → Bool
average A n = nat_lt 1 n
average B n = true
average C n = false

abbrev pub counts : HandbookCategory → Counted
counts A = Unreasonable
counts B = Unreasonable
counts C = Short

abbrev pub plan_of : HandbookCategory → Row → Plan
plan_of category row = record {
  sample = row.sample;
  rule = record { average = average category row.sample; factor = row.factor; allowed = row.allowed; counted = counts category };
  initial = row.initial;
}

-- the total of the first printed row that reaches the ratio, in the column of the sample size; else the initial size
abbrev pub total : HandbookCategory → Row → ℕ → ℕ
total A row ratio =
    let totals : ℕ × ℕ × ℕ = reached printed.a_tare (row.initial, row.initial, row.initial) ratio in
    if row.sample == 12 then totals.0 else (if row.sample == 24 then totals.1 else (if row.sample == 48 then totals.2 else row.initial))
total B row ratio =
    let totals : ℕ × ℕ = reached printed.b_tare (row.initial, row.initial) ratio in
    if row.sample == 10 then totals.0 else (if row.sample == 30 then totals.1 else row.initial)
total C row ratio = row.initial

abbrev pub handbook : HandbookCategory → ℕ → List ℕ → ℕ → Option Sampling
handbook category size name label =
    let row = row_of category size in
    if takes category size name label then Some (record { plan = plan_of category row; total = total category row }) else None

abbrev pub all_ascend : Bool
all_ascend = ascending printed.a && ascending printed.c && ascending printed.a_tare && ascending printed.b_tare
