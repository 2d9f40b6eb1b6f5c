-- The errors and MAVs that a closing read are those that the events give.
use Rattle.std.proofs.Common.{◌≡◌, ℕ, zero, suc, ◌*◌, ◌/◌, ◌<◌, ◌≤◌, Bool, true, false, cond, ltb, List, [], ◌∷◌, map, length, get_or, take, ℤ, pos, ◌+ℤ◌, ◌-ℤ◌, is_some, Some, None, Option, unwrap_or, sym, refl, ap, ◌∙◌, subst, suc-le-suc, arith}
use Rattle.decision.specs.Answer.{Decided, outside}
use Rattle.packages.specs.declared.reading.Reading.{Reading}
use Rattle.packages.specs.declared.reading.Reading.TheVariants.{Empty, Weighed, Opened}
use Rattle.packages.specs.Readings.{gross_of}
use Rattle.sheet.specs.declared.call.Phase.{Phase}
use Rattle.sheet.specs.declared.call.Phase.TheVariants.{Unsettled, Settled}
use Rattle.sheet.specs.declared.refusal.Refusal.{Refusal}
use Rattle.sheet.specs.declared.refusal.Refusal.TheVariants as why
use Rattle.sheet.specs.Closing.{complete, all_complete, package_error, errors, mavs, closing}
use Rattle.sheet.specs.Steps.{label_fits}
use Rattle.sheet.specs.Tare.{label_of}
use Rattle.sheet.specs.Terms.{Terms}
use Rattle.sheet.proofs.Weighed.{complete_at}
use Rattle.history.specs.Memory.{Weighing, weighing, each, label_at, error_at, errors_of, mavs_of, last_tare, last_weighing}
use Rattle.history.specs.Rule.{Remembers, new_run}
use Rattle.history.proofs.Invariant.{Holds, kept, TareIs}
use Rattle.history.proofs.Kept.{run_sound, new_inv}

-- a list by its places
pub each_map : {A : Type 0} (n : ℕ) (rows : List Reading) (f : Reading → A) (g : ℕ → A) → n ≤ length rows → ((k : ℕ) → k < n → f (get_or rows k Empty) ≡ g (suc k)) → map f (take n rows) ≡ each n g
each_map zero rows f g l h = refl
each_map (suc n) [] f g l h = absurd (omega arith)
each_map (suc n) (r ∷ rows) f g l h =
    ap (λ x. x ∷ map f (take n rows)) (h 0 (omega arith)) ∙ ap (λ xs. g 1 ∷ xs) (each_map n rows f (λ k. g (suc k)) (omega arith) (λ k lt. h (suc k) (suc-le-suc lt)))

-- the label that is kept is the one that was given, where it counts
label_same : (random labeled : Bool) (l given : Option ℕ) (d : ℕ) → label_fits random l ≡ true → l ≡ kept labeled given → cond random (unwrap_or l 0) d ≡ cond random (unwrap_or given 0) d
label_same true true l given d f e = ap (λ (o : Option ℕ). unwrap_or o 0) e
label_same true false l given d f e = absurd (let z : ◌≡◌ {A = ℕ} 0 1 = ap (λ b. cond b 1 0) (sym (ap (label_fits true) e) ∙ f) in omega arith)
label_same false labeled l given d f e = refl

module _ (t : Terms) (w : Weighing) where
  place_same : (r : Reading) → complete t.random r ≡ true → Holds t.labeled r w → (gross_of r ≡ w.gross) × (label_of t r ≡ cond t.random (unwrap_or w.label 0) t.label)
  place_same Empty c h = absurd (let z : ◌≡◌ {A = ℕ} 0 1 = ap (λ b. cond b 1 0) c in omega arith)
  place_same (Weighed g l) c h = (h.0, label_same t.random t.labeled l w.label t.label c h.1)
  place_same (Opened g l tare) c h = (h.0, label_same t.random t.labeled l w.label t.label c h.1)

  error_same : (average : ℕ) (r : Reading) → complete t.random r ≡ true → Holds t.labeled r w →
      package_error t average r ≡ pos w.gross -ℤ pos (cond t.random (unwrap_or w.label 0) t.label) -ℤ pos average +ℤ pos (cond t.random (unwrap_or w.label 0) t.label * t.allowance / 1000)
  error_same average r c h =
      let s = place_same r c h in
      ap (λ (g : ℕ). pos g -ℤ pos (label_of t r) -ℤ pos average +ℤ pos (label_of t r * t.allowance / 1000)) s.0
      ∙ ap (λ (l : ℕ). pos w.gross -ℤ pos l -ℤ pos average +ℤ pos (l * t.allowance / 1000)) s.1

-- what an accepted closing has asked
by_cond : (a b : Bool) (e f : Refusal) (o : Option Refusal) → cond a (Some e) (cond b o (Some f)) ≡ None → b ≡ true
by_cond true b e f o q = cc
by_cond false true e f o q = refl
by_cond false false e f o q = cc

closed_complete : (t : Terms) (total average : ℕ) (rows : List Reading) → closing t (Settled total average) rows ≡ None → all_complete t (take t.sample rows) ≡ true
closed_complete t total average rows q =
    by_cond (ltb (length rows) t.sample) (all_complete t (take t.sample rows)) why.FewPlaces why.Unweighed (cond (is_some (outside (errors t average rows))) (Some why.ErrorRange) None) q

pub remembers : Remembers
remembers t entries rows rec long (closed, recorded) =
    let ran = new_run t entries rows in
    let s = run_sound t entries Unsettled _ (λ p. weighing 0 None) 0 (new_inv t rows long) closed in
    let inv = s.1 in
    let ended : closing t (Settled rec.tare_total rec.average_tare) ran.rows ≡ None = subst (λ (ph : Phase). closing t ph ran.rows ≡ None) recorded.settled s.0 in
    let whole = closed_complete t rec.tare_total rec.average_tare ran.rows ended in
    let tare : rec.average_tare ≡ last_tare ran.events = subst (λ (ph : Phase). TareIs ph (last_tare ran.events)) recorded.settled inv.tare in
    let es : errors t rec.average_tare ran.rows ≡ errors_of t ran.events =
    each_map t.sample ran.rows (package_error t rec.average_tare) (error_at t ran.events) inv.long
    (λ k l. error_same t (last_weighing (suc k) ran.events) rec.average_tare (get_or ran.rows k Empty) (complete_at t.random ran.rows t.sample k whole l inv.long) (inv.held k l)
    ∙ ap (λ (a : ℕ). pos (last_weighing (suc k) ran.events).gross -ℤ pos (label_at t ran.events (suc k)) -ℤ pos a +ℤ pos (label_at t ran.events (suc k) * t.allowance / 1000)) tare) in
    let ms : mavs t ran.rows ≡ mavs_of t ran.events =
    each_map t.sample ran.rows (λ r. t.mav (label_of t r)) (λ p. t.mav (label_at t ran.events p)) inv.long
    (λ k l. ap t.mav (place_same t (last_weighing (suc k) ran.events) (get_or ran.rows k Empty) (complete_at t.random ran.rows t.sample k whole l inv.long) (inv.held k l)).1) in (
      tare,
      subst (λ (x : List ℤ). Decided t.division (mavs_of t ran.events) t.rule x rec.decision) es
          (subst (λ (x : List (ℕ × ℕ)). Decided t.division x t.rule (errors t rec.average_tare ran.rows) rec.decision) ms recorded.decided),
    )
