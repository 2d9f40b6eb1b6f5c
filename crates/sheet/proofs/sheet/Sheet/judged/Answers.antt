use Rattle.std.proofs.Common.{◌≤◌, length, refl, ap, ◌∙◌}
use Rattle.std.proofs.lemmas.List.{length-map}
use Rattle.sheet.specs.Closing.{package_mavs}
use Rattle.sheet.specs.Views.{rows_of, terms_of}
use Rattle.sheet.proofs.Places.{first_read}
use Rattle.sheet.proofs.Questions.{asked, unweighed, error_range, passes, accepts, decides, decided_on}
use Rattle.sheet.proofs.Soundness.{facts}
use Rattle.sheet.proofs.sheet.Sheet.judged.Goals as goal

pub returns-then-not-all_complete : goal.returns-then-not-all_complete
returns-then-not-all_complete g c =
    let sheet = c.args.self.now in
    let rows = rows_of g.P.Package c.args.list.now in
    let t = terms_of g.C.Category g.K.Kind g.P.Package sheet in
    let many : sheet.plan.sample ≤ length rows = simp length-map c.in-Some.ensures.1 in
    let first = first_read g.P.Package.reading _ _ _ c.in-Some.ensures.0 in
    unweighed t sheet.phase rows c.in-Settled.total c.in-Settled.average many c.in-Settled.is
    c.all_complete.result (asked t _ _ c.is_none.result _ rows refl c.is_none.ensures first c.all_complete.ensures) c.if-not-all_complete.true

pub returns-in_default-errors : goal.returns-in_default-errors
returns-in_default-errors g c =
    let sheet = c.args.self.now in
    let rows = rows_of g.P.Package c.args.list.now in
    let t = terms_of g.C.Category g.K.Kind g.P.Package sheet in
    let many : sheet.plan.sample ≤ length rows = simp length-map c.in-Some.ensures.1 in
    let first = first_read g.P.Package.reading _ _ _ c.in-Some.ensures.0 in
    let out = rw first at c.in_default-errors.ensures in
    error_range t sheet.phase rows c.in-Settled.total c.in-Settled.average many c.in-Settled.is
    c.all_complete.result (asked t _ _ c.is_none.result _ rows refl c.is_none.ensures first c.all_complete.ensures) c.if-not-all_complete.false out

-- a sound sheet fails no question of the decision
pub unwrap-decision-requires : goal.unwrap-decision-requires
unwrap-decision-requires g c =
    let sheet = c.args.self.now in
    let rows = rows_of g.P.Package c.args.list.now in
    let t = terms_of g.C.Category g.K.Kind g.P.Package sheet in
    let known = facts sheet.lot sheet.plan sheet.sound in
    let many : sheet.plan.sample ≤ length rows = simp length-map c.in-Some.ensures.1 in
    let first = first_read g.P.Package.reading _ _ _ c.in-Some.ensures.0 in
    let found = rw first at c.in-Some-errors.ensures in
    decides t c.in-Settled.average rows _ _ c.decide.result (c.deref.ensures.0 ∙ found.0) (c.deref-2.ensures.0 ∙ c.mavs-mavs.ensures ∙ ap (package_mavs t) first) c.decide.ensures
    (accepts t c.in-Settled.average rows many known.some known.few known.factor known.allowed known.average found.1)

pub returns : goal.returns
returns g c =
    let sheet = c.args.self.now in
    let rows = rows_of g.P.Package c.args.list.now in
    let t = terms_of g.C.Category g.K.Kind g.P.Package sheet in
    let many : sheet.plan.sample ≤ length rows = simp length-map c.in-Some.ensures.1 in
    let first = first_read g.P.Package.reading _ _ _ c.in-Some.ensures.0 in
    let found = rw first at c.in-Some-errors.ensures in (
      passes t sheet.phase rows c.in-Settled.total c.in-Settled.average many c.in-Settled.is
          c.all_complete.result (asked t _ _ c.is_none.result _ rows refl c.is_none.ensures first c.all_complete.ensures) c.if-not-all_complete.false found.1,
      record {
        settled = c.in-Settled.is;
        rule = refl;
        decided = decided_on t c.in-Settled.average rows _ _ c.decide.result (c.deref.ensures.0 ∙ found.0) (c.deref-2.ensures.0 ∙ c.mavs-mavs.ensures ∙ ap (package_mavs t) first) c.decide.ensures
            c.unwrap-decision.result c.unwrap-decision.ensures;
      },
    )
