-- What the events of a run say of each place, and of the tare.
use Rattle.std.specs.Prelude.{ℕ, zero, suc, ◌*◌, ◌/◌, cond, List, [], ◌∷◌, ℤ, pos, ◌+ℤ◌, ◌-ℤ◌, None, Option, ◌==◌}
use Rattle.std.specs.Option.{unwrap_or}
use Rattle.sheet.specs.declared.call.Call.{Call}
use Rattle.sheet.specs.declared.call.Call.TheVariants.{Weigh, Correct, Strike, Open, Settle, Reopen}
use Rattle.sheet.specs.Terms.{Terms}
use Rattle.history.specs.Runs.{Event, accepted, settled, refused}

-- gross weight and label of a weighing
pub record Weighing : Type 0 where
  pub gross : ℕ
  pub label : Option ℕ

abbrev pub weighing : ℕ → Option ℕ → Weighing
weighing g l = record { gross = g; label = l }

-- a weighing or a correcting of the place replaces what was remembered of it
abbrev pub noted_call : ℕ → Call → Weighing → Weighing
noted_call p (Weigh q g l) was = cond (q == p) (weighing g l) was
noted_call p (Correct q g l) was = cond (q == p) (weighing g l) was
noted_call p (Strike q) was = was
noted_call p (Open q tare) was = was
noted_call p Settle was = was
noted_call p Reopen was = was

abbrev pub noted : ℕ → Event → Weighing → Weighing
noted p (accepted c) was = noted_call p c was
noted p (settled total average) was = was
noted p (refused e why) was = was

-- the last accepted weighing or correcting of a place
abbrev pub remembered : ℕ → List Event → Weighing → Weighing
remembered p [] was = was
remembered p (e ∷ es) was = remembered p es (noted p e was)

abbrev pub last_weighing : ℕ → List Event → Weighing
last_weighing p events = remembered p events (weighing 0 None)

-- the last accepted settling's average tare
abbrev pub tare_noted : Event → ℕ → ℕ
tare_noted (accepted c) was = was
tare_noted (settled total average) was = average
tare_noted (refused e why) was = was

abbrev pub tare_remembered : List Event → ℕ → ℕ
tare_remembered [] was = was
tare_remembered (e ∷ es) was = tare_remembered es (tare_noted e was)

abbrev pub last_tare : List Event → ℕ
last_tare events = tare_remembered events 0

-- the label of a place: its own on a random sheet, else the sheet's
abbrev pub label_at : Terms → List Event → ℕ → ℕ
label_at t events p = cond t.random (unwrap_or (last_weighing p events).label 0) t.label

-- the package error of a place
abbrev pub error_at : Terms → List Event → ℕ → ℤ
error_at t events p =
    pos (last_weighing p events).gross -ℤ pos (label_at t events p) -ℤ pos (last_tare events) +ℤ pos (label_at t events p * t.allowance / 1000)

-- a value for each place from 1 to n
abbrev pub each : {A : Type 0} → ℕ → (ℕ → A) → List A
each zero f = []
each (suc n) f = f 1 ∷ each n (λ k. f (suc k))

abbrev pub errors_of : Terms → List Event → List ℤ
errors_of t events = each t.sample (error_at t events)

abbrev pub mavs_of : Terms → List Event → List (ℕ × ℕ)
mavs_of t events = each t.sample (λ p. t.mav (label_at t events p))
