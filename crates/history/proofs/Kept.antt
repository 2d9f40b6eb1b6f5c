-- A run to an accepted closing keeps the invariant.
use Rattle.std.proofs.Common.{◌≡◌, ℕ, zero, suc, ◌<◌, ◌≤◌, true, List, [], ◌∷◌, length, get_or, Some, None, Option, sym, refl, ap, subst, arith}
use Rattle.packages.specs.declared.reading.Reading.{Reading}
use Rattle.packages.specs.declared.reading.Reading.TheVariants.{Empty}
use Rattle.packages.specs.Readings.{emptied}
use Rattle.sheet.specs.declared.call.Call.{Call}
use Rattle.sheet.specs.declared.call.Phase.{Phase}
use Rattle.sheet.specs.declared.call.Phase.TheVariants.{Unsettled}
use Rattle.sheet.specs.declared.refusal.Refusal.{Refusal}
use Rattle.sheet.specs.Calls.{step}
use Rattle.sheet.specs.Closing.{closing}
use Rattle.sheet.specs.Steps as outcome
use Rattle.sheet.specs.Terms.{Terms}
use Rattle.history.specs.declared.entry.Entry.{Entry}
use Rattle.history.specs.declared.entry.Entry.TheVariants as entry
use Rattle.history.specs.Memory.{Weighing, weighing, remembered, tare_remembered}
use Rattle.history.specs.Runs.{Ran, after_call, after_close, run}
use Rattle.history.proofs.Invariant.{Inv, Fine, Holds, step_fine}

-- a run that is closed: the closing asked no more, and the invariant holds of what the events say
abbrev pub Sound : Terms → Ran → (ℕ → Weighing) → ℕ → Type 0
Sound t r w av = (closing t r.phase r.rows ≡ None) × Inv t r.phase r.rows (λ p. remembered p r.events (w p)) (tare_remembered r.events av)

module _ (t : Terms) (next : Phase → List Reading → Ran)
    (ih : (ph : Phase) (rows : List Reading) (w : ℕ → Weighing) (av : ℕ) → Inv t ph rows w av → (next ph rows).closed ≡ true → Sound t (next ph rows) w av)
    (ph : Phase) (rows : List Reading) (w : ℕ → Weighing) (av : ℕ) (inv : Inv t ph rows w av) where
  by_call : (c : Call) (o : outcome.Outcome) → Fine t w av c o → (after_call c ph rows next o).closed ≡ true → Sound t (after_call c ph rows next o) w av
  by_call c (outcome.taken ph₁ rows₁) f e = ih ph₁ rows₁ _ _ f e
  by_call c (outcome.refused why) f e = ih ph rows w av inv e

  by_close : (o : Option Refusal) → closing t ph rows ≡ o → (after_close ph rows next o).closed ≡ true → Sound t (after_close ph rows next o) w av
  by_close None q e = (q, inv)
  by_close (Some why) q e = ih ph rows w av inv e

pub run_sound : (t : Terms) (entries : List Entry) (ph : Phase) (rows : List Reading) (w : ℕ → Weighing) (av : ℕ) → Inv t ph rows w av → (run t entries ph rows).closed ≡ true → Sound t (run t entries ph rows) w av
run_sound t [] ph rows w av inv e = cc
run_sound t (entry.Call c ∷ es) ph rows w av inv e = by_call t (run t es) (run_sound t es) ph rows w av inv c (step t ph rows c) (step_fine t ph rows w av inv c) e
run_sound t (entry.Close ∷ es) ph rows w av inv e = by_close t (run t es) (run_sound t es) ph rows w av inv (closing t ph rows) refl e

emptied_length : (n : ℕ) (rows : List Reading) → length (emptied n rows) ≡ length rows
emptied_length zero rows = refl
emptied_length (suc n) [] = refl
emptied_length (suc n) (r ∷ rows) = ap suc (emptied_length n rows)

emptied_at : (n : ℕ) (rows : List Reading) (k : ℕ) → k < n → get_or (emptied n rows) k Empty ≡ Empty
emptied_at zero rows k l = absurd (omega arith)
emptied_at (suc n) [] k l = refl
emptied_at (suc n) (r ∷ rows) zero l = refl
emptied_at (suc n) (r ∷ rows) (suc k) l = emptied_at n rows k (omega arith)

-- a new sheet remembers nothing
pub new_inv : (t : Terms) (rows : List Reading) → t.sample ≤ length rows → Inv t Unsettled (emptied t.sample rows) (λ p. weighing 0 None) 0
new_inv t rows h = record {
  long = omega (arith, emptied_length t.sample rows);
  held = λ k l. subst (λ (r : Reading). Holds t.labeled r (weighing 0 None)) (sym (emptied_at t.sample rows k l)) tt;
  tare = tt;
}
