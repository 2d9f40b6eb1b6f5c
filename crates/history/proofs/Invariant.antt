-- What every call keeps: a weighed place holds what its last accepted weighing or correcting said, and a settled tare is the last one.
use Rattle.std.proofs.Common.{◌≡◌, ℕ, suc, ◌-◌, ◌<◌, ◌≤◌, Bool, true, false, cond, ◌&&◌, eqb, ltb, leb, List, length, get_or, take, set, None, Ok, Err, Option, Result, sym, refl, subst, ⊎_elim, arith, length-set, get_or-set_other, get_or-set_same}
use Rattle.std.proofs.lemmas.Bool.{cases_eq, eq-eqb, ne_eqb, leb-true, and_parts, cond-false}
use Rattle.packages.specs.declared.reading.Reading.{Reading}
use Rattle.packages.specs.declared.reading.Reading.TheVariants.{Empty, Weighed, Opened}
use Rattle.packages.specs.Readings.{stored}
use Rattle.sheet.specs.declared.call.Call.{Call}
use Rattle.sheet.specs.declared.call.Call.TheVariants.{Weigh, Correct, Strike, Open, Settle, Reopen}
use Rattle.sheet.specs.declared.call.Phase.{Phase}
use Rattle.sheet.specs.declared.call.Phase.TheVariants.{Unsettled, Settled}
use Rattle.sheet.specs.declared.refusal.Refusal.{Refusal}
use Rattle.sheet.specs.declared.refusal.Refusal.TheVariants as why
use Rattle.sheet.specs.Calls.{place_of, placed, weighable, frozen, performed, thawed, step}
use Rattle.sheet.specs.Steps.{Outcome, taken, refused, weighed, corrected, struck, opened, placing}
use Rattle.sheet.specs.Tare.{all_opened, total_for, average_of, settling, settles, settle, reopen}
use Rattle.sheet.specs.Terms.{Terms}
use Rattle.history.specs.Memory.{Weighing, weighing, noted, tare_noted}
use Rattle.history.specs.Runs.{event}

-- what a record keeps of a label
abbrev pub kept : Bool → Option ℕ → Option ℕ
kept labeled l = cond labeled l None

abbrev pub Holds : Bool → Reading → Weighing → Type 0
Holds labeled Empty w = Unit {0}
Holds labeled (Weighed g l) w = (g ≡ w.gross) × (l ≡ kept labeled w.label)
Holds labeled (Opened g l tare) w = (g ≡ w.gross) × (l ≡ kept labeled w.label)

abbrev pub TareIs : Phase → ℕ → Type 0
TareIs Unsettled av = Unit {0}
TareIs (Settled total average) av = average ≡ av

pub record Inv (t : Terms) (ph : Phase) (rows : List Reading) (w : ℕ → Weighing) (av : ℕ) : Type 0 where
  pub long : t.sample ≤ length rows
  pub held : (k : ℕ) → k < t.sample → Holds t.labeled (get_or rows k Empty) (w (suc k))
  pub tare : TareIs ph av

-- a call that is accepted keeps the invariant
abbrev pub Fine : Terms → (ℕ → Weighing) → ℕ → Call → Outcome → Type 0
Fine t w av c (taken ph rows) = Inv t ph rows (λ p. noted p (event c ph) (w p)) (tare_noted (event c ph) av)
Fine t w av c (refused e) = Unit {0}

holds_weighed : (labeled : Bool) (g : ℕ) (l : Option ℕ) → Holds labeled (stored labeled (Weighed g l)) (weighing g l)
holds_weighed true g l = (refl, refl)
holds_weighed false g l = (refl, refl)

holds_opened : (labeled : Bool) (g : ℕ) (l : Option ℕ) (tare : ℕ) (w : Weighing) → g ≡ w.gross → l ≡ kept labeled w.label → Holds labeled (stored labeled (Opened g l tare)) w
holds_opened true g l tare w a b = (a, b)
holds_opened false g l tare w a b = (a, refl)

holds_empty : (labeled : Bool) (w : Weighing) → Holds labeled (stored labeled Empty) w
holds_empty true w = tt
holds_empty false w = tt

module _ (t : Terms) (ph : Phase) (rows : List Reading) (w : ℕ → Weighing) (av : ℕ) (inv : Inv t ph rows w av) where
  -- one place is written
  write : (p : ℕ) (r : Reading) (w' : ℕ → Weighing) → 1 ≤ p → p ≤ t.sample → Holds t.labeled r (w' p) → ((q : ℕ) → (q ≡ p → ⊥) → w' q ≡ w q) → Inv t ph (set rows (p - 1) r) w' av
  write p r w' lo hi h other = record {
    long = simp length-set inv.long;
    held = λ k l. ⊎_elim
        (λ e. let at : k ≡ p - 1 = omega arith in let lt : p - 1 < length rows = omega (arith, inv.long) in
        subst (λ (i : ℕ). Holds t.labeled (get_or (set rows (p - 1) r) i Empty) (w' (suc k))) (sym at)
        (subst (λ (x : Reading). Holds t.labeled x (w' (suc k))) (sym (get_or-set_same rows (p - 1) r Empty lt))
        (subst (λ (q : ℕ). Holds t.labeled r (w' q)) (sym e) h)))
        (λ n. let away : k ≡ p - 1 → ⊥ = λ e. n (omega arith) in
        subst (λ (x : Reading). Holds t.labeled x (w' (suc k))) (sym (get_or-set_other rows (p - 1) k r Empty away))
        (subst (λ (x : Weighing). Holds t.labeled (get_or rows k Empty) x) (sym (other (suc k) n)) (inv.held k l)))
        (cases_eq (suc k) p);
    tare = inv.tare;
  }

  written : (p g : ℕ) (l : Option ℕ) → 1 ≤ p → p ≤ t.sample → Inv t ph (set rows (p - 1) (stored t.labeled (Weighed g l))) (λ q. cond (eqb p q) (weighing g l) (w q)) av
  written p g l lo hi =
      write p (stored t.labeled (Weighed g l)) (λ q. cond (eqb p q) (weighing g l) (w q)) lo hi
      (subst (λ (b : Bool). Holds t.labeled (stored t.labeled (Weighed g l)) (cond b (weighing g l) (w p))) (sym (eq-eqb p p refl)) (holds_weighed t.labeled g l))
      (λ q n. cond-false _ _ _ (ne_eqb p q (λ e. n (sym e))))

  emptied_at : (p : ℕ) → 1 ≤ p → p ≤ t.sample → Inv t ph (set rows (p - 1) (stored t.labeled Empty)) w av
  emptied_at p lo hi = write p (stored t.labeled Empty) w lo hi (holds_empty t.labeled (w p)) (λ q n. refl)

  opened_at : (p g : ℕ) (l : Option ℕ) (tare : ℕ) → 1 ≤ p → p ≤ t.sample → g ≡ (w p).gross → l ≡ kept t.labeled (w p).label → Inv t ph (set rows (p - 1) (stored t.labeled (Opened g l tare))) w av
  opened_at p g l tare lo hi a b = write p (stored t.labeled (Opened g l tare)) w lo hi (holds_opened t.labeled g l tare (w p) a b) (λ q n. refl)

  weigh_fine : (p g : ℕ) (l : Option ℕ) (r : Reading) → 1 ≤ p → p ≤ t.sample → Fine t w av (Weigh p g l) (placing t.labeled ph rows p (weighed r g l))
  weigh_fine p g l Empty lo hi = written p g l lo hi
  weigh_fine p g l (Weighed g₀ l₀) lo hi = tt
  weigh_fine p g l (Opened g₀ l₀ tare) lo hi = tt

  correct_fine : (p g : ℕ) (l : Option ℕ) (r : Reading) → 1 ≤ p → p ≤ t.sample → Fine t w av (Correct p g l) (placing t.labeled ph rows p (corrected r g l))
  correct_fine p g l Empty lo hi = tt
  correct_fine p g l (Weighed g₀ l₀) lo hi = written p g l lo hi
  correct_fine p g l (Opened g₀ l₀ tare) lo hi = written p g l lo hi

  strike_fine : (p : ℕ) (r : Reading) → 1 ≤ p → p ≤ t.sample → Fine t w av (Strike p) (placing t.labeled ph rows p (struck r))
  strike_fine p Empty lo hi = tt
  strike_fine p (Weighed g l) lo hi = emptied_at p lo hi
  strike_fine p (Opened g l tare) lo hi = emptied_at p lo hi

  tared_fine : (p tare g : ℕ) (l : Option ℕ) (b : Bool) → 1 ≤ p → p ≤ t.sample → g ≡ (w p).gross → l ≡ kept t.labeled (w p).label →
      Fine t w av (Open p tare) (placing t.labeled ph rows p (cond b (Ok (Opened g l tare)) (Err why.TareAboveGross)))
  tared_fine p tare g l true lo hi a b = opened_at p g l tare lo hi a b
  tared_fine p tare g l false lo hi a b = tt

  open_fine : (p tare : ℕ) (r : Reading) → 1 ≤ p → p ≤ t.sample → Holds t.labeled r (w p) → Fine t w av (Open p tare) (placing t.labeled ph rows p (opened r tare))
  open_fine p tare Empty lo hi h = tt
  open_fine p tare (Weighed g l) lo hi h = tared_fine p tare g l (leb tare g) lo hi h.0 h.1
  open_fine p tare (Opened g l tare₀) lo hi h = tared_fine p tare g l (leb tare g) lo hi h.0 h.1

  -- the invariant at a place that counts from 1
  held_at : (p : ℕ) → 1 ≤ p → p ≤ t.sample → Holds t.labeled (get_or rows (p - 1) Empty) (w p)
  held_at p lo hi = subst (λ (q : ℕ). Holds t.labeled (get_or rows (p - 1) Empty) (w q)) (let e : suc (p - 1) ≡ p = omega arith in e) (inv.held (p - 1) (omega arith))

  settled_fine : (r : Result Phase Refusal) → ((ph₁ : Phase) → r ≡ Ok ph₁ → (total : ℕ) × (average : ℕ) × (ph₁ ≡ Settled total average)) → Fine t w av Settle (settles rows r)
  settled_fine (Ok Unsettled) h = absurd (let x = h Unsettled refl in let z : ◌≡◌ {A = ℕ} 0 1 = cc x.2 in omega arith)
  settled_fine (Ok (Settled total average)) h = record { long = inv.long; held = inv.held; tare = refl }
  settled_fine (Err e) h = tt

  reopen_fine : (ph₀ : Phase) → Fine t w av Reopen (reopen ph₀ rows)
  reopen_fine Unsettled = tt
  reopen_fine (Settled total average) = record { long = inv.long; held = inv.held; tare = tt }

settled_by : (a b d : Bool) (x : Phase) (e f h : Refusal) (ph : Phase) → cond a (cond b (cond d (Ok x) (Err e)) (Err f)) (Err h) ≡ Ok ph → x ≡ ph
settled_by true true true x e f h ph q = cc
settled_by true true false x e f h ph q = cc
settled_by true false d x e f h ph q = cc
settled_by false b d x e f h ph q = cc

fine_if : (t : Terms) (w : ℕ → Weighing) (av : ℕ) (c : Call) (b : Bool) (o o' : Outcome) → (b ≡ true → Fine t w av c o) → (b ≡ false → Fine t w av c o') → Fine t w av c (cond b o o')
fine_if t w av c true o o' h k = h refl
fine_if t w av c false o o' h k = k refl

module _ (t : Terms) (ph : Phase) (rows : List Reading) (w : ℕ → Weighing) (av : ℕ) (inv : Inv t ph rows w av) where
  place_lo : (p : ℕ) → (leb 1 p && leb p t.sample) ≡ true → 1 ≤ p
  place_lo p h = leb-true 1 p (and_parts (leb 1 p) (leb p t.sample) h).0

  place_hi : (p : ℕ) → (leb 1 p && leb p t.sample) ≡ true → p ≤ t.sample
  place_hi p h = leb-true p t.sample (and_parts (leb 1 p) (leb p t.sample) h).1

  settle_fine : (ph₀ : Phase) → Fine t w av Settle (settle t ph₀ rows)
  settle_fine Unsettled = settled_fine t ph rows w av inv (settling t rows) (λ ph₁ e. (total_for t rows, average_of (total_for t rows) rows, sym (settled_by (all_opened (take t.initial rows)) (leb (total_for t rows) t.sample) (all_opened (take (total_for t rows) rows)) _ (why.TotalUnopened (total_for t rows)) why.TotalAboveSample why.InitialUnopened ph₁ e)))
  settle_fine (Settled total average) = tt

  performed_fine : (c : Call) → placed t.sample (place_of c) ≡ true → Fine t w av c (performed t ph rows c)
  performed_fine (Weigh p g l) h = weigh_fine t ph rows w av inv p g l (get_or rows (p - 1) Empty) (place_lo p h) (place_hi p h)
  performed_fine (Correct p g l) h = correct_fine t ph rows w av inv p g l (get_or rows (p - 1) Empty) (place_lo p h) (place_hi p h)
  performed_fine (Strike p) h = strike_fine t ph rows w av inv p (get_or rows (p - 1) Empty) (place_lo p h) (place_hi p h)
  performed_fine (Open p tare) h = open_fine t ph rows w av inv p tare (get_or rows (p - 1) Empty) (place_lo p h) (place_hi p h) (held_at t ph rows w av inv p (place_lo p h) (place_hi p h))
  performed_fine Settle h = settle_fine ph
  performed_fine Reopen h = reopen_fine t ph rows w av inv ph

  pub step_fine : (c : Call) → Fine t w av c (step t ph rows c)
  step_fine c =
      fine_if t w av c (ltb (length rows) t.sample) (refused why.FewPlaces) _ (λ a. tt)
      (λ a. fine_if t w av c (placed t.sample (place_of c)) _ (refused why.NoPlace)
      (λ b. fine_if t w av c (weighable t.random c) (thawed t ph rows c) (refused why.Unweighable)
      (λ d. fine_if t w av c (frozen ph (place_of c)) (refused why.Frozen) (performed t ph rows c) (λ e. tt) (λ e. performed_fine c b))
      (λ d. tt))
      (λ b. tt))
