-- Worked cases of the rules.
use Rattle.std.specs.Prelude.{◌≡◌, ℕ, Bool, true, false, List, [], ◌∷◌, replicate, ℤ, pos, negsuc, Some, None}
use Rattle.std.specs.Option.{option_map}
use Rattle.categories.specs.declared.handbook.HandbookCategory.TheVariants.{A, B, C}
use Rattle.categories.specs.Handbook as categories
use Rattle.decision.specs.declared.outcome.Figures.{Figures}
use Rattle.decision.specs.declared.outcome.Verdict.TheVariants.{Plan, Over, Average, Within}
use Rattle.decision.specs.declared.rule.Counted.TheVariants.{Unreasonable, Short}
use Rattle.decision.specs.declared.rule.Rule.{Rule}
use Rattle.decision.specs.Sample.{figures, is_unreasonable}
use Rattle.decision.specs.Verdicts.{verdict, Deviates}
use Rattle.kinds.specs.declared.handbook.HandbookKind.TheVariants.{Mus, Cnt}
use Rattle.kinds.specs.Handbook as kinds
use Rattle.packages.specs.declared.reading.Reading.{Reading}
use Rattle.packages.specs.declared.reading.Reading.TheVariants.{Opened}
use Rattle.sheet.specs.Tare.{average_of}

-- sample size and rule of the plan that a category has for a lot
abbrev rule : Bool → ℕ → ℕ → Rule
rule average factor allowed = record { average = average; factor = factor; allowed = allowed; counted = Unreasonable }

-- so many packages, each with a MAV of 0.044 lb, weighed in steps of 0.001 lb
abbrev pound : ℕ → List ℤ → Figures
pound n es = figures 10 (replicate n (440, 1)) es

-- the errors of a filled-in report form, in thousandths of a pound
abbrev chuck : List ℤ
chuck =
    negsuc 17 ∷ negsuc 6 ∷ negsuc 7 ∷ negsuc 13 ∷ negsuc 22 ∷ negsuc 15 ∷ negsuc 1 ∷ negsuc 24 ∷ negsuc 15 ∷ negsuc 19 ∷ negsuc 13 ∷ negsuc 10 ∷ []

abbrev light : List ℤ
light = negsuc 39 ∷ replicate 11 (negsuc 0)

abbrev even : List ℤ
even = replicate 12 (negsuc 0)

-- two opened packages by their tares
abbrev tares : ℕ → ℕ → List Reading
tares a b = Opened 500 None a ∷ Opened 500 None b ∷ []

-- one package of 47 among twelve labeled 50
abbrev pencils : List ℤ
pencils = negsuc 2 ∷ replicate 11 (pos 0)

abbrev pencil_rule : Rule
pencil_rule = record { average = false; factor = 0; allowed = 1; counted = Short }

pub record WorkedCases : Type 0 where
  -- category A, a label of 1 lb, n = 12
  pub plan_12 : option_map (λ s. s.plan.rule) (categories.handbook A 250 (kinds.word Mus) 10000) ≡ Some (rule true 635 0)
  pub mav_pound : (kinds.handbook Mus).mav 10000 ≡ (440, 1)
  pub chuck_total : (pound 12 chuck).total ≡ negsuc 173
  pub chuck_verdict : verdict (rule true 635 0) (pound 12 chuck) ≡ Average
  pub chuck_limit : Deviates (rule true 635 0) (pound 12 chuck) 6721 4267
  pub reasonable : is_unreasonable 10 (440, 1) (negsuc 43) ≡ false
  pub not_reasonable : is_unreasonable 10 (440, 1) (negsuc 44) ≡ true
  pub light_verdict : verdict (rule true 635 0) (pound 12 light) ≡ Within
  pub light_limit : Deviates (rule true 635 0) (pound 12 light) 11258 7148
  pub even_verdict : verdict (rule true 635 0) (pound 12 even) ≡ Average
  pub even_limit : Deviates (rule true 635 0) (pound 12 even) 0 0
  -- average tares: a half goes to the even division
  pub tare_down : average_of 2 (tares 20 21) ≡ 20
  pub tare_up : average_of 2 (tares 21 22) ≡ 22
  -- sample sizes of category A
  pub lot_11 : (categories.row_of A 11).sample ≡ 11
  pub lot_12 : (categories.row_of A 12).sample ≡ 12
  pub lot_250 : (categories.row_of A 250).sample ≡ 12
  pub lot_251 : (categories.row_of A 251).sample ≡ 24
  pub lot_3200 : (categories.row_of A 3200).sample ≡ 24
  pub lot_3201 : (categories.row_of A 3201).sample ≡ 48
  -- n = 2
  pub plan_2 : option_map (λ s. s.plan.rule) (categories.handbook A 2 (kinds.word Mus) 10000) ≡ Some (rule true 8985 0)
  pub pair_within : verdict (rule true 8985 0) (pound 2 (negsuc 7 ∷ pos 0 ∷ [])) ≡ Within
  pub pair_average : verdict (rule true 8985 0) (pound 2 (negsuc 4 ∷ negsuc 4 ∷ [])) ≡ Average
  pub pair_over : verdict (rule true 8985 0) (pound 2 (negsuc 0 ∷ pos 1 ∷ [])) ≡ Over
  -- category B
  pub plan_10 : option_map (λ s. s.plan.rule) (categories.handbook B 250 (kinds.word Mus) 10000) ≡ Some (rule true 0 0)
  pub plant_average : verdict (rule true 0 0) (pound 10 (negsuc 0 ∷ replicate 9 (pos 0))) ≡ Average
  pub plant_over : verdict (rule true 0 0) (pound 10 (replicate 10 (pos 0))) ≡ Over
  -- counts
  pub mav_250 : (kinds.handbook Cnt).mav 250 ≡ (7, 1)
  pub seven_short : is_unreasonable 1 (7, 1) (negsuc 6) ≡ false
  pub eight_short : is_unreasonable 1 (7, 1) (negsuc 7) ≡ true
  pub mav_1500 : (kinds.handbook Cnt).mav 1500 ≡ (22, 1)
  -- category C
  pub plan_c : option_map (λ s. s.plan.rule) (categories.handbook C 160 (kinds.word Cnt) 50) ≡ Some pencil_rule
  pub mav_50 : (kinds.handbook Cnt).mav 50 ≡ (1, 1)
  pub pencil_short : (figures 1 (replicate 12 (1, 1)) pencils).short ≡ 1
  pub pencil_unreasonable : (figures 1 (replicate 12 (1, 1)) pencils).unreasonable ≡ 1
  pub pencil_verdict : verdict pencil_rule (figures 1 (replicate 12 (1, 1)) pencils) ≡ Plan
