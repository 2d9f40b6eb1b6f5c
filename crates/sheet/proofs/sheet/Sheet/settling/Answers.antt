use Rattle.std.proofs.Common.{◌≡◌, ◌≤◌, cond, length, sym, ◌∙◌, rules}
use Rattle.std.proofs.lemmas.List.{length-map}
use Rattle.sheet.specs.Views.{rows_of, terms_of}
use Rattle.sheet.proofs.Places.{first_read, first_length}
use Rattle.sheet.proofs.Settled.{unopened, above, few, fixed_at}
use Rattle.sheet.proofs.sheet.Sheet.settling.Goals as goal

pub returns-then-not-all_opened : goal.returns-then-not-all_opened
returns-then-not-all_opened g c =
    let sheet = c.args.self.now in
    let read = g.P.Package.reading in
    let i : c.if-is_weighed.initial' ≡ cond (g.K.Kind.meaning sheet.kind).weighed sheet.plan.initial 0 = search rules in
    let at = rw c.unwrap-first.ensures at c.first.ensures in
    unopened (terms_of g.C.Category g.K.Kind g.P.Package sheet) (rows_of g.P.Package c.args.list.now) _ c.if-is_weighed.initial' i (first_read read _ _ _ at.0) (sym c.all_opened.ensures ∙ c.if-not-all_opened.true)

pub returns-then-total-self : goal.returns-then-total-self
returns-then-total-self g c =
    let sheet = c.args.self.now in
    let read = g.P.Package.reading in
    let rows = rows_of g.P.Package c.args.list.now in
    let i : c.if-is_weighed.initial' ≡ cond (g.K.Kind.meaning sheet.kind).weighed sheet.plan.initial 0 = search rules in
    let at = rw c.unwrap-first.ensures at c.first.ensures in
    let long : c.if-is_weighed.initial' ≤ length rows = simp length-map at.1 in
    above (terms_of g.C.Category g.K.Kind g.P.Package sheet) rows _ c.if-is_weighed.initial' i (first_read read _ _ _ at.0) long (sym c.all_opened.ensures ∙ c.if-not-all_opened.false)
    c.total_for-total.result c.total_for-total.ensures c.if-total-self.true

pub returns-then-not-all_opened-2 : goal.returns-then-not-all_opened-2
returns-then-not-all_opened-2 g c =
    let sheet = c.args.self.now in
    let read = g.P.Package.reading in
    let rows = rows_of g.P.Package c.args.list.now in
    let i : c.if-is_weighed.initial' ≡ cond (g.K.Kind.meaning sheet.kind).weighed sheet.plan.initial 0 = search rules in
    let at = rw c.unwrap-first.ensures at c.first.ensures in
    let all = rw c.unwrap-opened.ensures at c.first-2.ensures in
    let long : c.if-is_weighed.initial' ≤ length rows = simp length-map at.1 in
    few (terms_of g.C.Category g.K.Kind g.P.Package sheet) rows _ c.if-is_weighed.initial' i (first_read read _ _ _ at.0) long (sym c.all_opened.ensures ∙ c.if-not-all_opened.false)
    c.total_for-total.result c.total_for-total.ensures c.if-total-self.false _ (first_read read _ _ _ all.0) (sym c.all_opened-2.ensures ∙ c.if-not-all_opened-2.true)

pub returns : goal.returns
returns g c =
    let sheet = c.args.self.now in
    let read = g.P.Package.reading in
    let rows = rows_of g.P.Package c.args.list.now in
    let i : c.if-is_weighed.initial' ≡ cond (g.K.Kind.meaning sheet.kind).weighed sheet.plan.initial 0 = search rules in
    let at = rw c.unwrap-first.ensures at c.first.ensures in
    let all = rw c.unwrap-opened.ensures at c.first-2.ensures in
    let long : c.if-is_weighed.initial' ≤ length rows = simp length-map at.1 in
    let enough : c.total_for-total.result ≤ length rows = simp length-map all.1 in
    let count = first_length _ _ _ all.0 all.1 in
    let average = rw count at c.average_of.ensures in
    fixed_at (terms_of g.C.Category g.K.Kind g.P.Package sheet) rows _ c.if-is_weighed.initial' i (first_read read _ _ _ at.0) long (sym c.all_opened.ensures ∙ c.if-not-all_opened.false)
    c.total_for-total.result c.total_for-total.ensures c.if-total-self.false _ (first_read read _ _ _ all.0) c.average_of.result (sym c.all_opened-2.ensures ∙ c.if-not-all_opened-2.false)
    average enough
