use Rattle.std.proofs.Common.{sym, ◌∙◌, ⊎_elim, arith}
use Rattle.tables.proofs.Lookup.{found, none}
use Rattle.tables.proofs.reached.Goals as goal

pub returns-then-row-ends : goal.returns-then-row-ends
returns-then-row-ends g c =
    let row = c.first_end-row in
    c.index-values-row.is ∙ sym (found c.args.past c.args.amount _ _ row.result _ (omega arith) (omega arith) row.ensures.before (row.ensures.found (omega arith)))

pub returns-else-row-values : goal.returns-else-row-values
returns-else-row-values g c =
    sym (none c.args.past c.args.amount _ _ c.first_end-row.result (λ i j. ⊎_elim (λ a. omega arith) (λ a. omega arith) c.else-row-values.either) c.first_end-row.ensures.before)
