-- A started run ends as its definition says, and two of them keep the rule.
use Rattle.std.proofs.Common.{◌≡◌, ℕ, List, length, Ok, Err, Result, sym, ap, ◌∙◌, subst}
use Rattle.std.proofs.lemmas.List.{length-map}
use Rattle.categories.specs.declared.category.Category as cat
use Rattle.categories.specs.declared.plan.Plan.{Plan}
use Rattle.kinds.specs.declared.kind.Kind as kin
use Rattle.lots.specs.declared.lot.Lot.{Lot}
use Rattle.lots.specs.declared.lot.LotFault.{LotFault}
use Rattle.packages.specs.declared.list.PackageList.{PackageList}
use Rattle.packages.specs.declared.package.Package as pac
use Rattle.packages.specs.declared.reading.Reading.{Reading}
use Rattle.packages.specs.Readings.{emptied}
use Rattle.sheet.specs.declared.call.Phase.{Phase}
use Rattle.sheet.specs.declared.call.Phase.TheVariants.{Unsettled}
use Rattle.sheet.specs.declared.record.Record.{Record}
use Rattle.sheet.specs.declared.refusal.Refusal.{Refusal}
use Rattle.sheet.specs.declared.sheet.Sheet.{Sheet}
use Rattle.sheet.specs.Starts.{starting, Starts}
use Rattle.sheet.specs.Terms.{Terms}
use Rattle.sheet.specs.Views.{rows_of, terms_of}
use Rattle.history.specs.declared.ending.Ending.{Ending}
use Rattle.history.specs.declared.ending.Ending.TheVariants.{Refused, Open, Closed}
use Rattle.history.specs.declared.ending.Start.{Start}
use Rattle.history.specs.declared.entry.Entry.{Entry}
use Rattle.history.specs.Contest.{Setup, terms_for, ran, start, Ends, Ruled}
use Rattle.history.specs.Runs.{Ran, run}
use Rattle.history.specs.Setups.{setup_of}
use Rattle.history.specs.Turns.{Runs}
use Rattle.history.proofs.Sharing.{ruled}

-- a refused start
pub refused_ends : {C K : Type 0} (s : Setup) (category : C) (kind : K) (x : Result Plan Refusal) (why : Refusal) (rows : List Reading) → Starts category kind s.lot x s.rows (Err why) rows → Ends {C = C} {K = K} s x (Refused why) rows
refused_ends s category kind (Ok plan) why rows h = absurd h
refused_ends s category kind (Err e) why rows h = h

-- a new sheet goes by the terms of its start
pub terms_new : {C K P : Type 0} (c : cat.Ghosts C) (k : kin.Ghosts K) (p : pac.Ghosts P) (sheet : Sheet C K) (begin : Start C K) (entries : List Entry) (list : PackageList P) (plan : Plan) →
    sheet.category ≡ begin.category → sheet.kind ≡ begin.kind → sheet.lot ≡ begin.lot → sheet.plan ≡ plan → terms_of c k p sheet ≡ terms_for (setup_of c k p begin entries list) plan
terms_new c k p sheet begin entries list plan a b d e = cc (a, b, d, e)

-- the start of a list is by its length
pub start_length : {C K P : Type 0} (p : pac.Ghosts P) (category : C) (kind : K) (lot : Lot) (x : Result Plan LotFault) (list : PackageList P) (r : Result (Sheet C K) Refusal) (rows rows₁ : List Reading) →
    Starts category kind lot (starting x (length list.places.now)) rows r rows₁ → Starts category kind lot (starting x (length (rows_of p list))) rows r rows₁
start_length p category kind lot x list r rows rows₁ h = subst (λ (n : ℕ). Starts category kind lot (starting x n) rows r rows₁) (sym (length-map list.places.now p.reading)) h

-- the run of a new sheet
module _ {C K : Type 0} (s : Setup) (category : C) (kind : K) (sheet : Sheet C K) (t : Terms) (rows rows₁ : List Reading) where
  whole : (plan : Plan) → t ≡ terms_for s plan → sheet.phase ≡ Unsettled → rows ≡ emptied plan.sample s.rows → run t s.entries sheet.phase rows ≡ ran s plan
  whole plan a b c =
      ap (λ (x : Terms). run x s.entries sheet.phase rows) a ∙ ap (λ (x : Phase). run (terms_for s plan) s.entries x rows) b ∙ ap (run (terms_for s plan) s.entries Unsettled) c

  pub closed_ends : (x : Result Plan Refusal) (rec : Record) → ((plan : Plan) → sheet.category ≡ category → sheet.kind ≡ kind → sheet.lot ≡ s.lot → sheet.plan ≡ plan → t ≡ terms_for s plan) → Starts category kind s.lot x s.rows (Ok sheet) rows →
      Runs t (run t s.entries sheet.phase rows) sheet (Ok rec) rows₁ → Ends {C = C} {K = K} s x (Closed rec) rows₁
  closed_ends (Ok plan) rec same h r =
      let e = whole plan (same plan h.0 h.1 h.2 h.3) h.4 h.5 in
      let moved = subst (λ (x : Ran). Runs t x sheet (Ok rec) rows₁) e r in
      let again = subst (λ (x : Terms). Runs x (ran s plan) sheet (Ok rec) rows₁) (same plan h.0 h.1 h.2 h.3) moved in
      ((again.0, again.1), again.2)
  closed_ends (Err e) rec same h r = absurd h

  pub open_ends : (x : Result Plan Refusal) (back : Sheet C K) → ((plan : Plan) → sheet.category ≡ category → sheet.kind ≡ kind → sheet.lot ≡ s.lot → sheet.plan ≡ plan → t ≡ terms_for s plan) → Starts category kind s.lot x s.rows (Ok sheet) rows →
      Runs t (run t s.entries sheet.phase rows) sheet (Err back) rows₁ → Ends {C = C} {K = K} s x (Open back) rows₁
  open_ends (Ok plan) back same h r =
      let e = whole plan (same plan h.0 h.1 h.2 h.3) h.4 h.5 in
      let moved = subst (λ (x : Ran). Runs t x sheet (Err back) rows₁) e r in
      (moved.0, moved.1.lot ∙ h.2, moved.1.plan ∙ h.3, moved.2, moved.3)
  open_ends (Err e) back same h r = absurd h

closed_plan : (C K : Type 0) (s : Setup) (x : Result Plan Refusal) (rec : Record) (rows : List Reading) (plan : Plan) → Ends {C = C} {K = K} s x (Closed rec) rows → x ≡ Ok plan → Ends {C = C} {K = K} s (Ok plan) (Closed rec) rows
closed_plan C K s x rec rows plan h e = subst (λ (y : Result Plan Refusal). Ends {C = C} {K = K} s y (Closed rec) rows) e h

-- two runs that have ended
pub both_ruled : {C K D L : Type 0} (s r : Setup) (a : Ending C K) (b : Ending D L) (rows rows' : List Reading) → Ends s (start s) a rows → Ends r (start r) b rows' → Ruled s r a b
both_ruled {C} {K} {D} {L} s r (Closed a) (Closed b) rows rows' h k = λ plan plan' e e' shares lower.
    ruled s r plan plan' e e' a b (closed_plan C K s (start s) a rows plan h e).0 (closed_plan D L r (start r) b rows' plan' k e').0 shares lower
both_ruled s r (Closed a) (Open sheet) rows rows' h k = tt
both_ruled s r (Closed a) (Refused why) rows rows' h k = tt
both_ruled s r (Open sheet) b rows rows' h k = tt
both_ruled s r (Refused why) b rows rows' h k = tt
