-- The six kinds of the handbook.
use Rattle.std.specs.Prelude.{ℕ, Bool, true, false, ◌&&◌, ◌||◌, List, [], Option, Some, None, codes, if◌then◌else◌}
use Rattle.std.specs.Str.{bytes_eq}
use Rattle.tables.specs.Rows.{reached, ascending}
use Rattle.kinds.specs.declared.entry.Entry.{Entry}
use Rattle.kinds.specs.declared.entry.Entry.TheVariants.{Tenths, Whole}
use Rattle.kinds.specs.declared.handbook.HandbookKind.{HandbookKind}
use Rattle.kinds.specs.declared.handbook.HandbookKind.TheVariants.{Msi, Mus, Lsi, Cnt, Len, Are}
use Rattle.kinds.specs.Meaning.{Meaning}
use Rattle.kinds.specs.Entries.{allowed}
use Rattle.kinds.specs.Printed as printed

abbrev pub word : HandbookKind → List ℕ
word Msi = codes "msi"
word Mus = codes "mus"
word Lsi = codes "lsi"
word Cnt = codes "cnt"
word Len = codes "len"
word Are = codes "are"

-- the kind that a word names
abbrev pub named : List ℕ → HandbookKind → Option HandbookKind → Option HandbookKind
named name kind other = if bytes_eq name (word kind) then Some kind else other

abbrev pub kind_of : List ℕ → Option HandbookKind
kind_of name = named name Msi (named name Mus (named name Lsi (named name Cnt (named name Len (named name Are None)))))

-- the word of a weight, and of a count
abbrev pub weight : List ℕ → Bool
weight name = bytes_eq name (word Msi) || bytes_eq name (word Mus)

abbrev pub count : List ℕ → Bool
count name = bytes_eq name (word Cnt)

abbrev pub weighed : HandbookKind → Bool
weighed Msi = true
weighed Mus = true
weighed Lsi = false
weighed Cnt = false
weighed Len = false
weighed Are = false

-- the printed table of a kind, and what it allows past its last row
abbrev pub rows : HandbookKind → List (ℕ × Entry)
rows Msi = printed.msi
rows Mus = printed.mus
rows Lsi = printed.lsi
rows Cnt = printed.cnt
rows Len = printed.len
rows Are = []

abbrev pub past : HandbookKind → Entry
past Msi = Tenths 20
past Mus = Tenths 20
past Lsi = Tenths 10
past Cnt = Whole 15
past Len = Tenths 50
past Are = Tenths 30

-- the entry of a label: the first row of the kind's table that reaches it, and past the last row what the table says there
abbrev pub entry : HandbookKind → ℕ → Entry
entry kind = reached (rows kind) (past kind)

abbrev pub handbook : HandbookKind → Meaning
handbook kind = record { word = word kind; weighed = weighed kind; mav = λ label. allowed (entry kind label) label }

abbrev pub all_ascend : Bool
all_ascend = ascending printed.msi && ascending printed.mus && ascending printed.lsi && ascending printed.cnt && ascending printed.len
