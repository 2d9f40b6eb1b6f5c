use Rattle.std.proofs.Common.{sym, ◌∙◌, rules, tests}
use Rattle.std.proofs.lemmas.Iterator.{YieldsList-from_slice}
use Rattle.std.proofs.lemmas.Iterator.Search.{all_from_yields_List}
use Rattle.std.proofs.lemmas.List.Folds.{list_all-map}
use Rattle.sheet.specs.Tare.{is_opened}
use Rattle.sheet.proofs.settling.all_opened.Goals as goal

pub returns : goal.returns
returns g c =
    let read = g.P.Package.reading in
    all_from_yields_List (λ held. is_opened (read held)) _ _ c.all.result c.all.ensures.ran (YieldsList-from_slice c.args.places.now cc) (λ x b q k. search (rules, tests))
    ∙ sym (list_all-map is_opened read c.args.places.now)
