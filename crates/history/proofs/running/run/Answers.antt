use Rattle.std.proofs.Common.{None}
use Rattle.packages.proofs.Lent.{same_memory_trans}
use Rattle.sheet.specs.declared.call.Call.TheVariants.{Weigh}
use Rattle.sheet.specs.Views.{rows_of, terms_of}
use Rattle.history.specs.declared.entry.Entry.{Entry}
use Rattle.history.specs.declared.entry.Entry.TheVariants.{Call}
use Rattle.history.proofs.Turning.{run_again, run_closed, run_open, terms_kept}
use Rattle.history.proofs.running.run.Goals as goal

none : Entry
none = Call (Weigh 0 0 None)

pub returns-in-Ok-clause-runs : goal.returns-in-Ok-clause-runs
unfolding none
returns-in-Ok-clause-runs g c =
    let t = terms_of g.C.Category g.K.Kind g.P.Package c.args.sheet in
    let t₁ = terms_of g.C.Category g.K.Kind g.P.Package c.loop-entry.sheet in
    let kept = c.loop-entry.invariant.0 in
    let same = terms_kept g.C.Category g.K.Kind g.P.Package c.args.sheet c.loop-entry.sheet kept in
    run_closed t t₁ same c.args.sheet c.loop-entry.sheet c.args.entries.now c.loop-entry.entry-index none (rows_of g.P.Package c.loop-entry.list) (rows_of g.P.Package c.turn.new.list) _ kept c.loop-entry.invariant.1
    c.in-Ok.record c.loop-entry-test.true c.in-Ok.ensures.turned

pub loop-entry-preserved : goal.loop-entry-preserved
unfolding none
loop-entry-preserved g c =
    let t = terms_of g.C.Category g.K.Kind g.P.Package c.args.sheet in
    let t₁ = terms_of g.C.Category g.K.Kind g.P.Package c.loop-entry.sheet in
    let kept = c.loop-entry.invariant.0 in
    let same = terms_kept g.C.Category g.K.Kind g.P.Package c.args.sheet c.loop-entry.sheet kept in
    let next = run_again t t₁ same c.args.sheet c.loop-entry.sheet c.args.entries.now c.loop-entry.entry-index none (rows_of g.P.Package c.loop-entry.list) (rows_of g.P.Package c.turn.new.list) _ kept c.loop-entry.invariant.1
    c.in-Err.back c.in-Err.field-0-1 c.loop-entry-test.true c.in-Err.ensures.turned in
    (next.0, next.1, same_memory_trans _ _ _ c.loop-entry.invariant.2 c.in-Err.ensures.memory)

pub returns-clause-runs : goal.returns-clause-runs
returns-clause-runs g c =
    let t = terms_of g.C.Category g.K.Kind g.P.Package c.args.sheet in
    let rows = rows_of g.P.Package c.loop-entry.list in
    run_open t t mathlib.Core.Path.refl c.args.sheet c.loop-entry.sheet c.args.entries.now c.loop-entry.entry-index none rows rows _ c.loop-entry.invariant.0 c.loop-entry.invariant.1 c.loop-entry-test.false
