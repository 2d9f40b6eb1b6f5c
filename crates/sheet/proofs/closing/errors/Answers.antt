use Rattle.std.proofs.Common.{◌≡◌, ◌<◌, ◌≤◌, map, length, get_or, pos, ap, ◌∙◌, arith, w64, SFits, rules, below_more}
use Rattle.std.proofs.lemmas.List.{length-map, take_more, take_all}
use Rattle.std.proofs.lemmas.Int.{to_z-of_z}
use Rattle.decision.proofs.Ranges.{outside_none}
use Rattle.sheet.specs.Closing.{lot_error}
use Rattle.sheet.proofs.Errors.{narrowed, too_far, within, far, near}
use Rattle.sheet.proofs.Places.{made_at}
use Rattle.sheet.proofs.closing.errors.Goals as goal

pub returns-then-not-is_in_range : goal.returns-then-not-is_in_range
returns-then-not-is_in_range g c =
    let f = lot_error c.args.lot c.args.average in
    let es = map f (map g.P.Package.reading c.args.sample.now) in
    let z = c.package_error-error.result in
    let fits : SFits w64 z = search rules in
    let l : c.loop-held.held-index < length es = simp length-map c.loop-held-test.true in
    let e : z ≡ get_or es c.loop-held.held-index (pos 0) = c.package_error-error.ensures ∙ ap f c.read.ensures ∙ made_at g.P.Package.reading f c.args.sample.now c.loop-held.held-index c.held-item.result (pos 0) c.loop-held-test.true c.held-item.is in
    let out = too_far z _ (to_z-of_z w64 z fits) c.if-not-is_in_range.ensures in
    far es c.loop-held.held-index z l e c.loop-held.invariant.near out

pub loop-held-preserved : goal.loop-held-preserved
loop-held-preserved g c =
    let f = lot_error c.args.lot c.args.average in
    let es = map f (map g.P.Package.reading c.args.sample.now) in
    let z = c.package_error-error.result in
    let fits : SFits w64 z = search rules in
    let l : c.loop-held.held-index < length es = simp length-map c.loop-held-test.true in
    let e : z ≡ get_or es c.loop-held.held-index (pos 0) = c.package_error-error.ensures ∙ ap f c.read.ensures ∙ made_at g.P.Package.reading f c.args.sample.now c.loop-held.held-index c.held-item.result (pos 0) c.loop-held-test.true c.held-item.is in
    let in' = within z _ (to_z-of_z w64 z fits) c.if-not-is_in_range.ensures in
    let more = take_more es c.loop-held.held-index (pos 0) l in
    let same = narrowed z _ e in' in
    record {
      found = cc (c.push.ensures.items, more, same, c.loop-held.invariant.found);
      near = below_more _ _ c.loop-held.invariant.near (near es c.loop-held.held-index z e in');
    }

pub returns : goal.returns
returns g c =
    let es = map (lot_error c.args.lot c.args.average) (map g.P.Package.reading c.args.sample.now) in
    let l : length es ≤ c.loop-held.held-index = simp length-map c.loop-held-test.false in (
      c.loop-held.invariant.found ∙ take_all c.loop-held.held-index es l,
      outside_none es (λ k h. c.loop-held.invariant.near k (omega arith)),
    )
