-- What a table has for an amount: the value of the first row that reaches it, with what a test of all rows shows of it.
use Rattle.std.proofs.Common.{◌≡◌, ℕ, zero, suc, ◌<◌, ◌≤◌, Bool, true, false, cond, ◌&&◌, leb, nat_le, List, [], ◌∷◌, length, get_or, Some, refl, ◌∙◌, suc-le-suc, arith}
use Rattle.std.specs.List.{find, list_all}
use Rattle.std.specs.Option.{option_map_or}
use Rattle.std.proofs.lemmas.Bool.{cond-true, cond-false, cond_both, and_parts, le-leb, lt-leb, leb-false}
use Rattle.tables.specs.Rows.{rows, reached}

-- the first row that reaches the amount gives its value, and past the last row there is `past`
pub reached_found : {V : Type 0} (past : V) (amount : ℕ) (table : List (ℕ × V)) → reached table past amount ≡ option_map_or (λ row. row.1) (find (λ row. nat_le amount row.0) table) past
unfolding reached
reached_found past amount [] = refl
reached_found past amount (row ∷ rest) =
    elim (nat_le amount row.0) as (λ b. cond b row.1 (reached rest past amount) ≡ option_map_or (λ row. row.1) (cond b (Some row) (find (λ row. nat_le amount row.0) rest)) past) [ true ↦ refl | false ↦ reached_found past amount rest ]

-- in two columns it is the value beside the first end that is not below the amount
module _ {V : Type 0} (past : V) (amount : ℕ) where
  -- row r is the first that reaches the amount
  pub found : (ends : List ℕ) (values : List V) (r : ℕ) (d : V) → r < length ends → r < length values → ((k : ℕ) → k < r → get_or ends k 0 < amount) → amount ≤ get_or ends r 0 → reached (rows ends values) past amount ≡ get_or values r d
  unfolding reached
  found [] values r d h i b f = absurd (omega arith)
  found (e ∷ es) [] r d h i b f = absurd (omega arith)
  found (e ∷ es) (v ∷ vs) zero d h i b f = cond-true _ _ _ (le-leb amount e f)
  found (e ∷ es) (v ∷ vs) (suc r) d h i b f =
      cond-false _ _ _ (lt-leb amount e (b 0 (omega arith))) ∙ found es vs r d (omega arith) (omega arith) (λ k l. b (suc k) (suc-le-suc l)) f

  -- no row reaches the amount
  pub none : (ends : List ℕ) (values : List V) (r : ℕ) → (r < length ends → r < length values → ⊥) → ((k : ℕ) → k < r → get_or ends k 0 < amount) → reached (rows ends values) past amount ≡ past
  unfolding reached
  none [] [] r h b = refl
  none [] (v ∷ vs) r h b = refl
  none (e ∷ es) [] r h b = refl
  none (e ∷ es) (v ∷ vs) zero h b = absurd (h (omega arith) (omega arith))
  none (e ∷ es) (v ∷ vs) (suc r) h b =
      cond-false _ _ _ (lt-leb amount e (b 0 (omega arith))) ∙ none es vs r (λ i j. h (suc-le-suc i) (suc-le-suc j)) (λ k l. b (suc k) (suc-le-suc l))

-- each row's value passes a test
abbrev pub every : {V : Type 0} → (V → Bool) → List (ℕ × V) → Bool
every test = list_all (λ row. test row.1)

-- whatever a test of the values shows, and `past` has, what the table has for an amount has too
pub holds : {V : Type 0} (P : V → Type 0) (test : V → Bool) (table : List (ℕ × V)) (past : V) (amount : ℕ) → ((v : V) → test v ≡ true → P v) → every test table ≡ true → P past → P (reached table past amount)
unfolding reached
holds P test [] past amount t h p = p
holds P test (row ∷ rest) past amount t h p =
    let both = and_parts (test row.1) (every test rest) h in
    cond_both _ _ _ P (λ _. t row.1 both.0) (λ _. holds P test rest past amount t both.1 p)

-- so does what the table has for an amount, whatever the amount
pub passes : {V : Type 0} (test : V → Bool) (table : List (ℕ × V)) (past : V) (amount : ℕ) → every test table ≡ true → test past ≡ true → test (reached table past amount) ≡ true
passes test table past amount = holds (λ v. test v ≡ true) test table past amount (λ v t. t)

-- each row's value, and then `past`, passes a test beside the end of the row before, and the first row's beside `end`
abbrev pub follows : {V : Type 0} → (ℕ → V → Bool) → ℕ → List (ℕ × V) → V → Bool
follows test end [] past = test end past
follows test end (row ∷ rest) past = test end row.1 && follows test row.0 rest past

-- so what the table has for an amount past `end` passes it beside some end below the amount
pub follows_below : {V : Type 0} (test : ℕ → V → Bool) (end : ℕ) (table : List (ℕ × V)) (past : V) (amount : ℕ) → end < amount → follows test end table past ≡ true → (e : ℕ) × (e < amount) × (test e (reached table past amount) ≡ true)
unfolding reached
follows_below test end [] past amount b h = (end, b, h)
follows_below test end (row ∷ rest) past amount b h =
    let both = and_parts (test end row.1) (follows test row.0 rest past) h in
    cond_both (leb amount row.0) _ _ (λ v. (e : ℕ) × (e < amount) × (test e v ≡ true)) (λ _. (end, b, both.0)) (λ l. follows_below test row.0 rest past amount (leb-false amount row.0 l) both.1)
