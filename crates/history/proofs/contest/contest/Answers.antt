use Rattle.history.specs.Setups.{setup_of}
use Rattle.history.proofs.Contesting.{both_ruled}
use Rattle.history.proofs.contest.contest.Goals as goal

pub returns-clause-rule : goal.returns-clause-rule
returns-clause-rule g c =
    both_ruled
    (setup_of g.C.Category g.K.Kind g.P.Package c.args.first c.args.entries.now c.args.places.now)
    (setup_of g.D.Category g.L.Kind g.Q.Package c.args.second c.args.more.now c.args.others.now)
    _ _ _ _ c.start_and_run-one.ensures.ends c.start_and_run-two.ensures.ends
