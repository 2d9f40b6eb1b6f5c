use Rattle.std.proofs.Common.{◌≡◌, ◌^◌, ◌<◌, ◌≤◌, ◌∷◌, map, length, ℤ, pos, ◌-ℤ◌, ap, ◌∙◌, arith, w64, SFits, rules}
use borrow.Author.Differences.{ints}
use Rattle.std.proofs.lemmas.List.{length-map}
use Rattle.std.proofs.lemmas.Int.{to_z-of_z}
use Rattle.packages.specs.declared.reading.Reading.{Reading}
use Rattle.packages.specs.Readings.{gross_of, tare_of}
use Rattle.sheet.specs.Tare.{label_by}
use Rattle.sheet.proofs.Places.{made_at}
use Rattle.sheet.proofs.Ranges.{spans_first, headed, spans_more, spans_range, size_min, size_max}
use Rattle.sheet.proofs.settling.ranges.Goals as goal

pub loop-held-init : goal.loop-held-init
loop-held-init g c =
    let read = g.P.Package.reading in
    let rows = map read c.args.places.now in
    let rest = map read c.in_ok-first.rest.now in
    let error : Reading → ℤ = λ row. pos (gross_of row) -ℤ pos (tare_of row) -ℤ pos (label_by c.args.label row) in
    let tare : Reading → ℤ = λ row. pos (tare_of row) in
    let whole : rows ≡ read c.in_ok-first.first.now ∷ rest = ap (map read) c.in_ok-first.ensures.cases.0 in
    let f : SFits w64 c.net_error.result = search rules in
    let h : SFits w64 c.from.result = search rules in
    let e = to_z-of_z w64 _ f ∙ c.net_error.ensures.is in
    let t = to_z-of_z w64 _ h ∙ c.from.ensures ∙ ap pos c.tare_of.ensures in
    record {
      errors_met = spans_first error rows rest _ _ _ _ whole c.read-first.ensures (c.of-errors.ensures.0 ∙ e) (c.of-errors.ensures.1 ∙ e);
      tares_met = spans_first tare rows rest _ _ _ _ whole c.read-first.ensures (c.of-tares.ensures.0 ∙ t) (c.of-tares.ensures.1 ∙ t);
      least = omega (arith, ints);
      most = omega (arith, ints);
    }

pub loop-held-preserved : goal.loop-held-preserved
loop-held-preserved g c =
    let read = g.P.Package.reading in
    let rest = map read c.in_ok-first.rest.now in
    let error : Reading → ℤ = λ row. pos (gross_of row) -ℤ pos (tare_of row) -ℤ pos (label_by c.args.label row) in
    let tare : Reading → ℤ = λ row. pos (tare_of row) in
    let l : c.loop-held.held-index < length rest = simp length-map c.loop-held-test.true in
    let f : SFits w64 c.net_error-in-loop-held.result = search rules in
    let h : SFits w64 c.from-in-loop-held.result = search rules in
    let e = to_z-of_z w64 _ f ∙ c.net_error-in-loop-held.ensures.is ∙ ap error c.read-reading.ensures ∙ made_at read error c.in_ok-first.rest.now c.loop-held.held-index c.held-item.result _ c.loop-held-test.true c.held-item.is in
    let t = to_z-of_z w64 _ h ∙ c.from-in-loop-held.ensures ∙ ap pos c.tare_of-in-loop-held.ensures ∙ ap tare c.read-reading.ensures ∙ made_at read tare c.in_ok-first.rest.now c.loop-held.held-index c.held-item.result _ c.loop-held-test.true c.held-item.is in
    record {
      errors_met = spans_more error _ rest c.loop-held.held-index _ _ _ _ _ c.loop-held.invariant.errors_met l e c.with-errors.ensures.0 c.with-errors.ensures.1;
      tares_met = spans_more tare _ rest c.loop-held.held-index _ _ _ _ _ c.loop-held.invariant.tares_met l t c.with-tares.ensures.0 c.with-tares.ensures.1;
      least = size_min (2 ^ 33) _ _ _ _ c.with-errors.ensures.0 (to_z-of_z w64 _ f) c.loop-held.invariant.least c.net_error-in-loop-held.ensures.bound;
      most = size_max (2 ^ 33) _ _ _ _ c.with-errors.ensures.1 (to_z-of_z w64 _ f) c.loop-held.invariant.most c.net_error-in-loop-held.ensures.bound;
    }

pub returns : goal.returns
returns g c =
    let read = g.P.Package.reading in
    let rows = map read c.args.places.now in
    let rest = map read c.in_ok-first.rest.now in
    let error : Reading → ℤ = λ row. pos (gross_of row) -ℤ pos (tare_of row) -ℤ pos (label_by c.args.label row) in
    let tare : Reading → ℤ = λ row. pos (tare_of row) in
    let whole : rows ≡ read c.in_ok-first.first.now ∷ rest = ap (map read) c.in_ok-first.ensures.cases.0 in
    let head = headed rows rest _ whole in
    let l : length rest ≤ c.loop-held.held-index = simp length-map c.loop-held-test.false in (
      head.0,
      spans_range error _ rest rows c.loop-held.held-index _ _ _ c.loop-held.invariant.errors_met l head.1 c.width.ensures,
      spans_range tare _ rest rows c.loop-held.held-index _ _ _ c.loop-held.invariant.tares_met l head.1 c.width-2.ensures,
      (let bound : c.width.result ≤ 2 ^ 34 = omega (arith, ints) in bound),
    )
