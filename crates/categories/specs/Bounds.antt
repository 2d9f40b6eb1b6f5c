-- Whatever the lot, the plan of a category is within the bounds: tests of the printed rows show it.
use Rattle.std.specs.Prelude.{◌≡◌, ℕ, suc, ◌*◌, ◌<◌, ◌≤◌, Bool, true, cond, if◌then◌else◌, ◌&&◌, leb, List, None, ◌==◌, nat_le, refl}
use Rattle.std.proofs.Common.{arith}
use Rattle.std.proofs.lemmas.Bool.{leb-true, eqb-true, eqb-false, not-true, and_parts, cond_both}
use Rattle.std.proofs.lemmas.Bool.Decides.{nat_tests}
use Rattle.tables.specs.Rows.{reached}
use Rattle.tables.proofs.Lookup.{every, passes, holds, follows, follows_below}
use Rattle.categories.specs.declared.handbook.HandbookCategory.{HandbookCategory}
use Rattle.categories.specs.declared.handbook.HandbookCategory.TheVariants.{A, B, C}
use Rattle.categories.specs.declared.plan.Row.{Row}
use Rattle.categories.specs.Meaning.{Sound, InBounds}
use Rattle.categories.specs.Handbook.{takes, rows, past, row_of, average, plan_of, total, handbook}
use Rattle.categories.specs.Printed as printed

-- each row of a category's table, and the row past its end, passes a test
abbrev pub category_passes : (HandbookCategory → Row → Bool) → HandbookCategory → Bool
category_passes test category = every (test category) (rows category) && test category (past category)

abbrev pub all_pass : (HandbookCategory → Row → Bool) → Bool
all_pass test = category_passes test A && (category_passes test B && category_passes test C)

each_passes : (test : HandbookCategory → Row → Bool) → all_pass test ≡ true → (category : HandbookCategory) → category_passes test category ≡ true
each_passes test h category =
    let first = and_parts (category_passes test A) (category_passes test B && category_passes test C) h in
    let second = and_parts (category_passes test B) (category_passes test C) first.1 in
    elim category as (λ k. category_passes test k ≡ true) [ A ↦ first.0 | B ↦ second.0 | C ↦ second.1 ]

-- so does the row of a lot, whatever its size
pub row_passes : (test : HandbookCategory → Row → Bool) → all_pass test ≡ true → (category : HandbookCategory) (size : ℕ) → test category (row_of category size) ≡ true
row_passes test h category size =
    let both = and_parts (every (test category) (rows category)) (test category (past category)) (each_passes test h category) in
    passes (test category) (rows category) (past category) size both.0 both.1

-- every category takes only lots above this size
abbrev pub floor : HandbookCategory → ℕ
floor A = 0
floor B = 9
floor C = 0

-- a lot that is taken is larger
pub above_floor : (category : HandbookCategory) (size : ℕ) (name : List ℕ) (label : ℕ) → takes category size name label ≡ true → floor category < size
above_floor A size name label t = let some = eqb-false size 0 (not-true _ (and_parts _ _ t).0) in omega arith
above_floor B size name label t = leb-true 10 size (and_parts _ _ t).0
above_floor C size name label t = let some = eqb-false size 0 (not-true _ (and_parts _ _ t).0) in omega arith

-- a sample is at most one more than the end of the row before
abbrev pub at_most_next : ℕ → Row → Bool
at_most_next end row = nat_le row.sample (suc end)

-- so no sample is larger than the lot
pub drawn : (category : HandbookCategory) (size : ℕ) → floor category < size → (row_of category size).sample ≤ size
drawn category size b =
    let next = elim category as (λ k. follows at_most_next (floor k) (rows k) (past k) ≡ true) [ A ↦ refl | B ↦ refl | C ↦ refl ] in
    let below = follows_below at_most_next (floor category) (rows category) (past category) size b next in
    let most = leb-true (row_of category size).sample (suc below.0) below.2 in
    omega arith

-- a total is between the initial size and the sample size
abbrev pub Between : ℕ → ℕ → ℕ → Type 0
Between i n t = (i ≤ t) × (t ≤ n)

-- the number is from least to most
abbrev pub within : {V : Type 0} → (V → ℕ) → ℕ → ℕ → V → Bool
within pick least most v = nat_le least (pick v) && nat_le (pick v) most

-- in a column of totals from least to m, whatever the ratio reaches is from the initial size to m
pub column : {V : Type 0} (pick : V → ℕ) (least m : ℕ) (table : List (ℕ × V)) (past : V) (ratio : ℕ) → every (within pick least m) table ≡ true → pick past ≤ least → pick past ≤ m → Between (pick past) m (pick (reached table past ratio))
column pick least m table past ratio h l p =
    holds (λ v. Between (pick past) m (pick v)) (within pick least m) table past ratio (λ v t. let both = and_parts _ _ t in let low = leb-true least (pick v) both.0 in (omega arith, leb-true (pick v) m both.1)) h (omega arith, p)

-- so is the total where the column is that for samples of m, and elsewhere if the other one is
pub in_column : {V : Type 0} (pick : V → ℕ) (least m : ℕ) (table : List (ℕ × V)) (past : V) (n other ratio : ℕ) → every (within pick least m) table ≡ true → (n ≡ m → pick past ≤ least) → Between (pick past) n other → pick past ≤ n → Between (pick past) n (cond (n == m) (pick (reached table past ratio)) other)
in_column pick least m table past n other ratio h l o p =
    cond_both (n == m) _ _ (Between (pick past) n) (λ e. let same = eqb-true n m e in let c = column pick least m table past ratio h (l same) (omega arith) in (c.0, omega arith)) (λ _. o)

-- the initial size is at most the least total of the column
abbrev pub opens : HandbookCategory → Row → Bool
opens A row = nat_le row.initial 2
opens B row = nat_le row.initial (cond (row.sample == 10) 2 6)
opens C row = true

-- so the total is between the initial size and the sample size, whatever the ratio
pub totals : (category : HandbookCategory) (row : Row) (ratio : ℕ) → opens category row ≡ true → row.initial ≤ row.sample → Between row.initial row.sample (total category row ratio)
totals A row ratio t p =
    let i = row.initial in
    let n = row.sample in
    let low = leb-true i 2 t in
    in_column (λ v. v.0) 2 12 printed.a_tare (i, i, i) n _ ratio refl (λ _. low)
    (in_column (λ v. v.1) 2 24 printed.a_tare (i, i, i) n _ ratio refl (λ _. low)
    (in_column (λ v. v.2) 2 48 printed.a_tare (i, i, i) n _ ratio refl (λ _. low) (omega arith, p) p)
    p)
    p
totals B row ratio t p =
    let i = row.initial in
    let n = row.sample in
    in_column (λ v. v.0) 2 10 printed.b_tare (i, i) n _ ratio refl (λ e. grind (arith, nat_tests))
    (in_column (λ v. v.1) 6 30 printed.b_tare (i, i) n _ ratio refl (λ e. grind (arith, nat_tests)) (omega arith, p) p)
    p
totals C row ratio t p = (omega arith, p)

-- the plan of a lot that is large enough for the category
pub sound : (category : HandbookCategory) (size : ℕ) → floor category < size → Sound size (record { plan = plan_of category (row_of category size); total = total category (row_of category size) })
sound category size b =
    let initial = leb-true _ _ (row_passes (λ _ row. leb row.initial row.sample) refl category size) in
    let opened = row_passes opens refl category size in
    record {
      some = leb-true 1 _ (row_passes (λ _ row. leb 1 row.sample) refl category size);
      few = leb-true _ 48 (row_passes (λ _ row. leb row.sample 48) refl category size);
      drawn = drawn category size b;
      average = λ e. leb-true 2 _ (rw e at (row_passes (λ k row. if average k row.sample then nat_le 2 row.sample else true) refl category size));
      factor = leb-true _ 18000 (row_passes (λ _ row. leb (row.factor * row.sample) 18000) refl category size);
      allowed = leb-true _ _ (row_passes (λ _ row. leb row.allowed row.sample) refl category size);
      initial = initial;
      total_least = λ ratio. (totals category (row_of category size) ratio opened initial).0;
      total_most = λ ratio. (totals category (row_of category size) ratio opened initial).1;
    }

-- the plan of any lot, if there is one
pub handbook_bounds : (category : HandbookCategory) (size : ℕ) (name : List ℕ) (label : ℕ) → InBounds size (handbook category size name label)
handbook_bounds category size name label =
    cond_both (takes category size name label) _ None (InBounds size) (λ t. sound category size (above_floor category size name label t)) (λ _. tt)
