-- A start, a list of entries and a package list, by their meaning.
use Rattle.std.specs.Prelude.{List}
use Rattle.categories.specs.declared.category.Category as cat
use Rattle.kinds.specs.declared.kind.Kind as kin
use Rattle.packages.specs.declared.list.PackageList.{PackageList}
use Rattle.packages.specs.declared.package.Package as pac
use Rattle.sheet.specs.Views.{rows_of}
use Rattle.history.specs.declared.ending.Start.{Start}
use Rattle.history.specs.declared.entry.Entry.{Entry}
use Rattle.history.specs.Contest.{Setup}

abbrev pub setup_of : {C K P : Type 0} → cat.Ghosts C → kin.Ghosts K → pac.Ghosts P → Start C K → List Entry → PackageList P → Setup
setup_of category kind records start entries list = record {
  category = category.meaning start.category;
  kind = kind.meaning start.kind;
  labeled = records.labeled;
  lot = start.lot;
  entries = entries;
  rows = rows_of records list;
}
