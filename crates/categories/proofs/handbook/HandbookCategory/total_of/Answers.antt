use Rattle.std.proofs.Common.{◌≡◌, ℕ, if◌then◌else◌, ◌==◌}
use Rattle.tables.specs.Rows.{reached}
use Rattle.categories.specs.declared.handbook.HandbookCategory.{HandbookCategory}
use Rattle.categories.specs.declared.handbook.HandbookCategory.TheVariants.{A, B}
use Rattle.categories.specs.declared.plan.Row.{Row}
use Rattle.categories.specs.Handbook.{total}
use Rattle.categories.specs.Printed as printed
use Rattle.categories.proofs.handbook.HandbookCategory.total_of.Goals as goal

-- the total, by the totals of the printed row that the ratio reaches
module _ (row : Row) (ratio : ℕ) {category : HandbookCategory} where
  of_a : {n : ℕ} {t : ℕ × ℕ × ℕ} → category ≡ A → row.sample ≡ n → t ≡ reached printed.a_tare (row.initial, row.initial, row.initial) ratio → (if n == 12 then t.0 else (if n == 24 then t.1 else (if n == 48 then t.2 else row.initial))) ≡ total category row ratio
  of_a k s e = cc

  of_b : {n : ℕ} {t : ℕ × ℕ} → category ≡ B → row.sample ≡ n → t ≡ reached printed.b_tare (row.initial, row.initial) ratio → (if n == 10 then t.0 else (if n == 30 then t.1 else row.initial)) ≡ total category row ratio
  of_b k s e = cc

pub returns-in-12 : goal.returns-in-12
returns-in-12 c = of_a c.args.row c.args.ratio c.in-A.is c.in-12.is c.reached_row-of_12.ensures

pub returns-in-24 : goal.returns-in-24
returns-in-24 c = of_a c.args.row c.args.ratio c.in-A.is c.in-24.is c.reached_row-of_12.ensures

pub returns-in-48 : goal.returns-in-48
returns-in-48 c = of_a c.args.row c.args.ratio c.in-A.is c.in-48.is c.reached_row-of_12.ensures

pub returns-in-10 : goal.returns-in-10
returns-in-10 c = of_b c.args.row c.args.ratio c.in-B.is c.in-10.is c.reached_row-of_10.ensures

pub returns-in-30 : goal.returns-in-30
returns-in-30 c = of_b c.args.row c.args.ratio c.in-B.is c.in-30.is c.reached_row-of_10.ensures
