-- How a sheet starts.
use Rattle.std.specs.Prelude.{◌≡◌, ℕ, cond, List, Ok, Err, Result, nat_lt}
use Rattle.categories.specs.declared.plan.Plan.{Plan}
use Rattle.lots.specs.declared.lot.Lot.{Lot}
use Rattle.lots.specs.declared.lot.LotFault.{LotFault}
use Rattle.packages.specs.declared.reading.Reading.{Reading}
use Rattle.packages.specs.Readings.{emptied}
use Rattle.sheet.specs.declared.call.Phase.TheVariants as phase
use Rattle.sheet.specs.declared.refusal.Refusal.{Refusal}
use Rattle.sheet.specs.declared.refusal.Refusal.TheVariants as why
use Rattle.sheet.specs.Refusals.{lot_refusal}
use Rattle.sheet.specs.declared.sheet.Sheet.{Sheet}

-- the plan, or the first question that the lot or the list of so many places fails
abbrev pub starting : Result Plan LotFault → ℕ → Result Plan Refusal
starting (Ok plan) places = cond (nat_lt places plan.sample) (Err why.FewPlaces) (Ok plan)
starting (Err fault) places = Err (lot_refusal fault)

-- a new sheet, unsettled, over a list whose first places are emptied; or a refusal, and the list as it was
abbrev pub Starts : {C K : Type 0} → C → K → Lot → Result Plan Refusal → List Reading → Result (Sheet C K) Refusal → List Reading → Type 0
Starts category kind lot (Ok plan) rows (Ok s) rows₁ =
    (s.category ≡ category) × (s.kind ≡ kind) × (s.lot ≡ lot) × (s.plan ≡ plan) × (s.phase ≡ phase.Unsettled) × (rows₁ ≡ emptied plan.sample rows)
Starts category kind lot (Ok plan) rows (Err e) rows₁ = ⊥
Starts category kind lot (Err why) rows (Ok s) rows₁ = ⊥
Starts category kind lot (Err why) rows (Err e) rows₁ = (e ≡ why) × (rows₁ ≡ rows)
