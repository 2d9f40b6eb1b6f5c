-- Settling, by the questions in their order, from what is read of the places that are opened first and in all.
use Rattle.std.proofs.Common.{◌≡◌, ℕ, ◌*◌, ◌/◌, ◌<◌, ◌≤◌, Bool, true, false, cond, eqb, List, map, length, take, pos, Ok, Err, sym, refl, ap, ◌∙◌, arith}
use Rattle.std.proofs.lemmas.Bool.{le-leb, lt-leb}
use Rattle.packages.specs.declared.reading.Reading.{Reading}
use Rattle.packages.specs.Readings.{tare_of}
use Rattle.rounding.specs.Nearest.{nearest}
use Rattle.sheet.specs.declared.call.Phase.TheVariants.{Settled}
use Rattle.sheet.specs.declared.refusal.Refusal.TheVariants as why
use Rattle.sheet.specs.Tare.{net_error, range, all_opened, total_for, tare_sum, average_of, settling}
use Rattle.sheet.specs.Terms.{Terms}
use Rattle.sheet.proofs.Places.{take_twice}

-- the first places, as the code has them: initial is the number that it reads
module _ (t : Terms) (rows first : List Reading) (initial : ℕ) (i : initial ≡ t.initial) (f : first ≡ take initial rows) where
  first_is : first ≡ take t.initial rows
  first_is = f ∙ ap (λ (n : ℕ). take n rows) i

  asked_first : (b : Bool) → all_opened first ≡ b → all_opened (take t.initial rows) ≡ b
  asked_first b e = ap all_opened (sym first_is) ∙ e

  pub unopened : all_opened first ≡ false → Err why.InitialUnopened ≡ settling t rows
  unopened e = let a = asked_first false e in rw a refl

  module _ (long : initial ≤ length rows) (o : all_opened first ≡ true) (total : ℕ) (s : total ≡ total_for t first) where
    total_is : total ≡ total_for t rows
    total_is =
        s ∙ ap (total_for t) first_is
        ∙ ap (λ (rs : List Reading). cond (eqb t.initial 0) 0 (cond (eqb (range (map (λ r. pos (tare_of r)) rs)) 0) t.initial (t.total (100 * range (map (net_error t) rs) / range (map (λ r. pos (tare_of r)) rs)))))
        (let k : t.initial ≤ length rows = omega arith in take_twice t.initial rows k)

    pub above : t.sample < total → Err why.TotalAboveSample ≡ settling t rows
    above h =
        let a = asked_first true o in
        let b = lt-leb total t.sample h in
        rw (a, ← total_is, b) refl

    module _ (within : total ≤ t.sample) (opened : List Reading) (g : opened ≡ take total rows) where
      pub few : all_opened opened ≡ false → Err (why.TotalUnopened total) ≡ settling t rows
      few e =
          let a = asked_first true o in
          let b = le-leb total t.sample within in
          let c : all_opened (take total rows) ≡ false = ap all_opened (sym g) ∙ e in
          rw (a, ← total_is, b, c) refl

      pub fixed_at : (average : ℕ) → all_opened opened ≡ true → average ≡ average_of total opened → total ≤ length rows → Ok (Settled total average) ≡ settling t rows
      fixed_at average e v k =
          let a = asked_first true o in
          let b = le-leb total t.sample within in
          let c : all_opened (take total rows) ≡ true = ap all_opened (sym g) ∙ e in
          let d : average ≡ average_of total rows = v ∙ ap (average_of total) g ∙ ap (λ (rs : List Reading). cond (eqb total 0) 0 (nearest (tare_sum rs) total)) (take_twice total rows k) in
          rw (a, ← total_is, b, c, ← d) refl
