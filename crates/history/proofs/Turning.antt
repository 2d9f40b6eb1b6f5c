-- One entry of a run.
use Rattle.std.proofs.Common.{◌≡◌, ℕ, ◌+◌, ◌<◌, ◌≤◌, true, false, List, length, get_or, drop, is_some, Some, None, Ok, Err, Option, sym, refl, ap, ◌∙◌, subst, arith}
use Rattle.std.proofs.lemmas.List.{at_drop_more, at_drop_all}
use Rattle.categories.specs.declared.category.Category as cat
use Rattle.kinds.specs.declared.kind.Kind as kin
use Rattle.packages.specs.declared.package.Package as pac
use Rattle.packages.specs.declared.reading.Reading.{Reading}
use Rattle.sheet.specs.declared.call.Call.{Call}
use Rattle.sheet.specs.declared.call.Phase.{Phase}
use Rattle.sheet.specs.declared.record.Record.{Record}
use Rattle.sheet.specs.declared.refusal.Refusal.{Refusal}
use Rattle.sheet.specs.declared.sheet.Sheet.{Sheet}
use Rattle.sheet.specs.Calls.{step}
use Rattle.sheet.specs.Closing.{Recorded}
use Rattle.sheet.specs.Steps as outcome
use Rattle.sheet.specs.Terms.{Terms}
use Rattle.sheet.specs.Views.{Kept, terms_of}
use Rattle.history.specs.declared.entry.Entry.{Entry}
use Rattle.history.specs.declared.entry.Entry.TheVariants as entry
use Rattle.history.specs.Runs.{Ran, stopped, after_call, after_close, turn, run}
use Rattle.history.specs.Turns.{Moved, Turned, Runs}

-- two runs that end alike
pub record Alike (r r' : Ran) : Type 0 where
  pub closed : r.closed ≡ r'.closed
  pub phase : r.phase ≡ r'.phase
  pub rows : r.rows ≡ r'.rows

pub alike_self : (r : Ran) → Alike r r
alike_self r = record { closed = refl; phase = refl; rows = refl }

pub alike_trans : (r r' r'' : Ran) → Alike r r' → Alike r' r'' → Alike r r''
alike_trans r r' r'' a b = record { closed = a.closed ∙ b.closed; phase = a.phase ∙ b.phase; rows = a.rows ∙ b.rows }

alike_at : (next : Phase → List Reading → Ran) (ph ph₁ : Phase) (rows rows₁ : List Reading) → ph₁ ≡ ph → rows₁ ≡ rows → Alike (next ph₁ rows₁) (next ph rows)
alike_at next ph ph₁ rows rows₁ a b = subst (λ (x : Phase). Alike (next ph₁ rows₁) (next x rows)) a (subst (λ (x : List Reading). Alike (next ph₁ rows₁) (next ph₁ x)) b (alike_self (next ph₁ rows₁)))

module _ {C K : Type 0} (t : Terms) (s : Sheet C K) (rows rows₁ : List Reading) (next : Phase → List Reading → Ran) where
  by_outcome : (c : Call) (o : outcome.Outcome) (s₁ : Sheet C K) (why : Option Refusal) → Moved o s rows s₁ why rows₁ → Kept s s₁ × Alike (next s₁.phase rows₁) (after_call c s.phase rows next o)
  by_outcome c (outcome.taken ph rows₂) s₁ why h = let a = alike_at next ph s₁.phase rows₂ rows₁ h.1 h.3 in (h.0, record { closed = a.closed; phase = a.phase; rows = a.rows })
  by_outcome c (outcome.refused e) s₁ why h = let a = alike_at next s.phase s₁.phase rows rows₁ h.1 h.3 in (h.0, record { closed = a.closed; phase = a.phase; rows = a.rows })

  by_refusal : (o : Option Refusal) → is_some o ≡ true → rows₁ ≡ rows → Alike (next s.phase rows₁) (after_close s.phase rows next o)
  by_refusal None e r = absurd (let z : ◌≡◌ {A = ℕ} 0 1 = ap (λ b. mathlib.Core.Bool.cond b 1 0) e in omega arith)
  by_refusal (Some why) e r = let a = alike_at next s.phase s.phase rows rows₁ refl r in record { closed = a.closed; phase = a.phase; rows = a.rows }

  kept_same : (s₁ : Sheet C K) → s₁ ≡ s → Kept s s₁
  kept_same s₁ e = record { category = ap (λ (x : Sheet C K). x.category) e; kind = ap (λ (x : Sheet C K). x.kind) e; lot = ap (λ (x : Sheet C K). x.lot) e; plan = ap (λ (x : Sheet C K). x.plan) e }

  -- the run goes on from where an entry left the sheet
  pub goes_on : (e : Entry) (s₁ : Sheet C K) (why : Option Refusal) → Turned t s rows e (Err (s₁, why)) rows₁ → Kept s s₁ × Alike (next s₁.phase rows₁) (turn t s.phase rows next e)
  goes_on (entry.Call c) s₁ why h = by_outcome c (step t s.phase rows c) s₁ why h
  goes_on entry.Close s₁ why h = (
    kept_same s₁ h.0,
    subst (λ (o : Option Refusal). Alike (next s₁.phase rows₁) (after_close s.phase rows next o)) (sym h.1)
        (subst (λ (x : Sheet C K). Alike (next x.phase rows₁) (after_close s.phase rows next why)) (sym h.0) (by_refusal why h.2 h.3)),
  )

  -- or it ends there
  pub ends_here : (e : Entry) (rec : Record) → Turned t s rows e (Ok rec) rows₁ → Recorded t s.phase rows rec × (rows₁ ≡ rows) × Alike (stopped s.phase rows true) (turn t s.phase rows next e)
  ends_here (entry.Call c) rec h = absurd h
  ends_here entry.Close rec h =
      (h.1, h.2, subst (λ (o : Option Refusal). Alike (stopped s.phase rows true) (after_close s.phase rows next o)) (sym h.0) (alike_self _))

pub kept_trans : {C K : Type 0} (s t u : Sheet C K) → Kept s t → Kept t u → Kept s u
kept_trans s t u a b = record { category = b.category ∙ a.category; kind = b.kind ∙ a.kind; lot = b.lot ∙ a.lot; plan = b.plan ∙ a.plan }

pub terms_kept : {C K P : Type 0} (c : cat.Ghosts C) (k : kin.Ghosts K) (p : pac.Ghosts P) (s t : Sheet C K) → Kept s t → terms_of c k p t ≡ terms_of c k p s
terms_kept c k p s t h = let a = h.category in let b = h.kind in let d = h.lot in let e = h.plan in cc (a, b, d, e)

-- one entry more of a run
pub run_more : (t : Terms) (es : List Entry) (i : ℕ) (d : Entry) (ph : Phase) (rows : List Reading) → i < length es → run t (drop i es) ph rows ≡ turn t ph rows (run t (drop (i + 1) es)) (get_or es i d)
run_more t es i d ph rows h = at_drop_more (λ ds. run t ds ph rows) es i d h

pub run_all : (t : Terms) (es : List Entry) (i : ℕ) (ph : Phase) (rows : List Reading) → length es ≤ i → run t (drop i es) ph rows ≡ stopped ph rows false
run_all t es i ph rows h = at_drop_all (λ ds. run t ds ph rows) es i h

-- a run that has come to the entry i, over plain values: `whole` is the run of all entries
module _ {C K : Type 0} (t t₁ : Terms) (same : t₁ ≡ t) (s₀ s : Sheet C K) (es : List Entry) (i : ℕ) (d : Entry) (rows rows₁ : List Reading) (whole : Ran) (k : Kept s₀ s) (al : Alike (run t (drop i es) s.phase rows) whole) where
  here : i < length es → Alike (turn t s.phase rows (run t (drop (i + 1) es)) (get_or es i d)) whole
  here lt = subst (λ (r : Ran). Alike r whole) (run_more t es i d s.phase rows lt) al

  pub run_again : (s₁ : Sheet C K) (why : Option Refusal) → i < length es → Turned t₁ s rows (get_or es i d) (Err (s₁, why)) rows₁ → Kept s₀ s₁ × Alike (run t (drop (i + 1) es) s₁.phase rows₁) whole
  run_again s₁ why lt h =
      let g = goes_on t s rows rows₁ (run t (drop (i + 1) es)) (get_or es i d) s₁ why (subst (λ (x : Terms). Turned x s rows (get_or es i d) (Err (s₁, why)) rows₁) same h) in
      (kept_trans s₀ s s₁ k g.0, alike_trans _ _ whole g.1 (here lt))

  pub run_closed : (rec : Record) → i < length es → Turned t₁ s rows (get_or es i d) (Ok rec) rows₁ → Runs t whole s₀ (Ok rec) rows₁
  run_closed rec lt h =
      let g = ends_here t s rows rows₁ (run t (drop (i + 1) es)) (get_or es i d) rec (subst (λ (x : Terms). Turned x s rows (get_or es i d) (Ok rec) rows₁) same h) in
      let a = alike_trans _ _ whole g.2 (here lt) in
      (sym a.closed, subst (λ (x : Phase). Recorded t x whole.rows rec) a.phase (subst (λ (x : List Reading). Recorded t s.phase x rec) a.rows g.0), g.1 ∙ a.rows)

  pub run_open : length es ≤ i → Runs t whole s₀ (Err s) rows
  run_open le =
      let a = subst (λ (r : Ran). Alike r whole) (run_all t es i s.phase rows le) al in
      (sym a.closed, k, a.phase, a.rows)
