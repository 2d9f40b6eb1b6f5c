use Rattle.std.proofs.Common.{◌≡◌, ◌<◌, map, length, get_or, is_some, refl, ap, ◌∙◌}
use Rattle.std.proofs.lemmas.List.{length-map, get_or-map, take_more}
use Rattle.packages.specs.declared.reading.Reading.TheVariants.{Empty}
use Rattle.sheet.specs.Closing.{package_mavs}
use Rattle.sheet.specs.Tare.{label_of}
use Rattle.sheet.specs.Views.{terms_of}
use Rattle.sheet.proofs.Places.{read_at}
use Rattle.sheet.proofs.Soundness.{facts}
use Rattle.sheet.proofs.Weighed.{every_complete, mav_at, same_some}
use Rattle.sheet.proofs.sheet.Sheet.mavs.Goals as goal

pub unwrap-mav-requires : goal.unwrap-mav-requires
unwrap-mav-requires g c =
    let sheet = c.args.self.now in
    let t = terms_of g.C.Category g.K.Kind g.P.Package sheet in
    let read = g.P.Package.reading in
    let rows = map read c.args.sample.now in
    let known = facts sheet.lot sheet.plan sheet.sound in
    let l : c.loop-held.held-index < length rows = simp length-map c.loop-held-test.true in
    let whole = every_complete t.random rows c.requires.complete c.loop-held.held-index l in
    let at = c.read.ensures ∙ read_at read c.args.sample.now c.loop-held.held-index c.held-item.result Empty c.loop-held-test.true c.held-item.is in
    ap is_some (mav_at t (g.K.Kind.meaning sheet.kind) sheet.lot.label c.read.result _ sheet.lot.division c.label_of-label.result c.package_mav.result
    refl known.labeled whole known.division_some known.division_few at c.label_of-label.ensures c.package_mav.ensures)

pub loop-held-preserved : goal.loop-held-preserved
loop-held-preserved g c =
    let sheet = c.args.self.now in
    let t = terms_of g.C.Category g.K.Kind g.P.Package sheet in
    let read = g.P.Package.reading in
    let rows = map read c.args.sample.now in
    let known = facts sheet.lot sheet.plan sheet.sound in
    let l : c.loop-held.held-index < length rows = simp length-map c.loop-held-test.true in
    let whole = every_complete t.random rows c.requires.complete c.loop-held.held-index l in
    let at = c.read.ensures ∙ read_at read c.args.sample.now c.loop-held.held-index c.held-item.result Empty c.loop-held-test.true c.held-item.is in
    let mav = mav_at t (g.K.Kind.meaning sheet.kind) sheet.lot.label c.read.result _ sheet.lot.division c.label_of-label.result c.package_mav.result
    refl known.labeled whole known.division_some known.division_few at c.label_of-label.ensures c.package_mav.ensures in
    let same : c.unwrap-mav.result ≡ t.mav (label_of t (get_or rows c.loop-held.held-index Empty)) = same_some _ _ _ c.unwrap-mav.ensures mav in
    let k : c.loop-held.held-index < length (package_mavs t rows) = simp length-map c.loop-held-test.true in
    let more = take_more (package_mavs t rows) c.loop-held.held-index c.unwrap-mav.result k in
    let made = get_or-map (λ r. t.mav (label_of t r)) rows c.loop-held.held-index Empty c.unwrap-mav.result l in
    cc (c.push.ensures.items, more, made, same, c.loop-held.invariant)
