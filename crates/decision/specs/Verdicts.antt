-- The verdict on a sample, from its figures alone.
use Rattle.std.specs.Prelude.{◌≡◌, ℕ, ◌-◌, ◌*◌, ◌/◌, ◌≤◌, Bool, true, if◌then◌else◌, cond, ⊤, not, List, length, codes, ℤ, pos, ◌-ℤ◌, ◌*ℤ◌, ◌≤ℤ◌, ◌<ℤ◌, int_le, int_lt, nat_lt, unsigned_abs}
use Rattle.decision.specs.declared.outcome.Figures.{Figures}
use Rattle.decision.specs.declared.outcome.Verdict.{Verdict}
use Rattle.decision.specs.declared.outcome.Verdict.TheVariants.{Mav, Plan, Over, Average, Within}
use Rattle.decision.specs.declared.rule.Counted.{Counted}
use Rattle.decision.specs.declared.rule.Counted.TheVariants.{Unreasonable, Short}
use Rattle.decision.specs.declared.rule.Rule.{Rule}
use Rattle.decision.specs.Sample.{total, pairs, Bounded}

-- K, how many packages count against the allowed number
abbrev pub chosen : Counted → ℕ → ℕ → ℕ
chosen Unreasonable u h = u
chosen Short u h = h

abbrev pub counted : Rule → Figures → ℕ
counted rule f = chosen rule.counted f.unreasonable f.short

-- n * Q - S * S
abbrev pub spread : Figures → ℤ
spread f = pos f.sample *ℤ f.squares -ℤ f.total *ℤ f.total

-- figures that the rule judges without leaving 64 bits
pub record Judgeable (rule : Rule) (f : Figures) : Type 0 where
  pub bounded : Bounded f
  pub some : 1 ≤ f.sample
  pub factor : rule.factor * f.sample ≤ 18000
  pub average : rule.average ≡ true → 2 ≤ f.sample
  pub not_negative : pos 0 ≤ℤ spread f

-- S * S * 10^6 * (n - 1) > factor * factor * n * (n * Q - S * S)
abbrev pub falls : ℕ → Figures → Bool
falls factor f = int_lt (pos (factor * factor * f.sample) *ℤ spread f) (f.total *ℤ f.total *ℤ pos (1000000 * (f.sample - 1)))

-- the first that fits
abbrev pub first : Bool → Bool → Bool → Bool → Verdict
first mav plan over average = if mav then Mav else (if plan then Plan else (if over then Over else (if average then Average else Within)))

abbrev pub verdict : Rule → Figures → Verdict
verdict rule f = first (nat_lt rule.allowed (counted rule f)) (not rule.average) (int_le (pos 0) f.total) (falls rule.factor f)

abbrev pub Passes : Verdict → Type 0
Passes Mav = ⊥
Passes Plan = ⊤
Passes Over = ⊤
Passes Average = ⊥
Passes Within = ⊤

-- as a report says it
abbrev pub verdict_word : Verdict → List ℕ
verdict_word Mav = codes "mav"
verdict_word Plan = codes "plan"
verdict_word Over = codes "over"
verdict_word Average = codes "average"
verdict_word Within = codes "within"

-- v is the largest whole number with v * v * n * (n - 1) ≤ x
pub record Largest (n x v : ℕ) : Type 0 where
  pub holds : v * v * n * (n - 1) ≤ x
  pub most : (w : ℕ) → w * w * n * (n - 1) ≤ x → w ≤ v

-- the deviation v and the limit l, in thousandths; both 0 where the average does not apply
abbrev pub Deviates : Rule → Figures → ℕ → ℕ → Type 0
Deviates rule f v l =
    cond rule.average (Largest f.sample (1000000 * unsigned_abs (spread f)) v × (l ≡ v * rule.factor / 1000)) ((v ≡ 0) × (l ≡ 0))

-- The average shortfall -S / n is above the sample error limit, factor / 1000 times the exact sample standard deviation s. Both
-- sides are squared and multiplied by 10^6 * n * n * (n - 1), where n * (n - 1) * s * s is the sum of the squares of all differences.
pub record AboveLimit (factor : ℕ) (es : List ℤ) : Type 0 where
  pub shortfall : total es <ℤ pos 0
  pub above : (pos (factor * factor * length es) *ℤ pairs es) <ℤ (total es *ℤ total es *ℤ pos (1000000 * (length es - 1)))

-- where the counts allow the lot and the average applies, the verdict is average exactly where the shortfall is above the limit
pub record ByAverage (rule : Rule) (es : List ℤ) (k : ℕ) (v : Verdict) : Type 0 where
  pub fails : v ≡ Average → (k ≤ rule.allowed) × (rule.average ≡ true) × AboveLimit rule.factor es
  pub only : k ≤ rule.allowed → rule.average ≡ true → AboveLimit rule.factor es → v ≡ Average
