-- A sheet and a package list as the definitions see them.
use Rattle.std.specs.Prelude.{◌≡◌, List, map}
use Rattle.categories.specs.declared.category.Category as cat
use Rattle.kinds.specs.declared.kind.Kind as kin
use Rattle.packages.specs.declared.list.PackageList.{PackageList}
use Rattle.packages.specs.declared.package.Package as pac
use Rattle.packages.specs.declared.reading.Reading.{Reading}
use Rattle.sheet.specs.declared.sheet.Sheet.{Sheet}
use Rattle.sheet.specs.Terms.{Terms, terms}

abbrev pub rows_of : {P : Type 0} → pac.Ghosts P → PackageList P → List Reading
rows_of records list = map records.reading list.places.now

abbrev pub terms_of : {C K P : Type 0} → cat.Ghosts C → kin.Ghosts K → pac.Ghosts P → Sheet C K → Terms
terms_of category kind records sheet =
    terms (category.meaning sheet.category) (kind.meaning sheet.kind) records.labeled sheet.lot sheet.plan

-- all but the phase is as it was
pub record Kept {C K : Type 0} (s t : Sheet C K) : Type 0 where
  pub category : t.category ≡ s.category
  pub kind : t.kind ≡ s.kind
  pub lot : t.lot ≡ s.lot
  pub plan : t.plan ≡ s.plan
