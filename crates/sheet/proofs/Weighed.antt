-- A sample that is weighed, with the labels that belong there.
use Rattle.std.proofs.Common.{◌≡◌, ℕ, zero, suc, ◌*◌, ◌<◌, ◌≤◌, Bool, true, not, List, [], ◌∷◌, length, get_or, take, is_some, Some, None, Option, unwrap_or, sym, ap, ◌∙◌, subst, arith}
use Rattle.std.proofs.lemmas.List.{length-take-le, get_or-take}
use Rattle.std.specs.List.{list_all}
use Rattle.std.proofs.lemmas.Bool.{and_parts, and_from, le-leb, cond-true}
use Rattle.kinds.specs.Meaning.{Meaning}
use Rattle.lots.specs.Lots.{label_in_range, package_mav}
use Rattle.packages.specs.declared.reading.Reading.{Reading}
use Rattle.packages.specs.declared.reading.Reading.TheVariants.{Empty, Weighed, Opened}
use Rattle.sheet.specs.Closing.{complete}
use Rattle.sheet.specs.Steps.{label_fits}
use Rattle.sheet.specs.Tare.{label_by}
use Rattle.sheet.specs.Terms.{Terms}

-- each of them is
pub every_complete : (random : Bool) (rows : List Reading) → list_all (complete random) rows ≡ true → (i : ℕ) → i < length rows → complete random (get_or rows i Empty) ≡ true
every_complete random [] e i l = absurd (omega arith)
every_complete random (r ∷ rows) e zero l = (and_parts _ _ e).0
every_complete random (r ∷ rows) e (suc i) l = every_complete random rows (and_parts _ _ e).1 i (omega arith)

pub complete_at : (random : Bool) (rows : List Reading) (n i : ℕ) → list_all (complete random) (take n rows) ≡ true → i < n → n ≤ length rows → complete random (get_or rows i Empty) ≡ true
complete_at random rows n i e l few =
    let k : i < length (take n rows) = rw length-take-le l in
    subst (λ (r : Reading). complete random r ≡ true) (get_or-take n rows i Empty l) (every_complete random (take n rows) e i k)

own : (t : Terms) (l : Option ℕ) → t.random ≡ true → label_fits t.random l ≡ true → label_in_range (Some (unwrap_or l 0)) ≡ true
own t None r e = cc
own t (Some l) r e = let same : label_fits t.random (Some l) ≡ label_fits true (Some l) = ap (λ b. label_fits b (Some l)) r in sym same ∙ e

-- the label of a complete package is in range
label_range : (t : Terms) (label : Option ℕ) (r : Reading) → t.random ≡ not (is_some label) → label_in_range label ≡ true → complete t.random r ≡ true → label_in_range (Some (label_by label r)) ≡ true
label_range t (Some l) r e h c = h
label_range t None Empty e h c = cc
label_range t None (Weighed g l) e h c = own t l e c
label_range t None (Opened g l tare) e h c = own t l e c

mav_known : (kind : Meaning) (division label : ℕ) → label_in_range (Some label) ≡ true → 1 ≤ division → division ≤ 100000 → package_mav kind division label ≡ Some (kind.mav (label * division))
mav_known kind division label h l m = cond-true _ _ _ (and_from _ _ h (and_from _ _ (le-leb 1 division l) (le-leb division 100000 m)))

-- the MAV of a complete package is known
pub mav_at : (t : Terms) (kind : Meaning) (sheet : Option ℕ) (r row : Reading) (division label : ℕ) (o : Option (ℕ × ℕ)) → t.random ≡ not (is_some sheet) → label_in_range sheet ≡ true →
    complete t.random row ≡ true → 1 ≤ division → division ≤ 100000 → r ≡ row → label ≡ label_by sheet r → o ≡ package_mav kind division label → o ≡ Some (kind.mav (label_by sheet row * division))
mav_at t kind sheet r row division label o er h c l m e el eo =
    eo ∙ ap (package_mav kind division) (el ∙ ap (label_by sheet) e) ∙ mav_known kind division (label_by sheet row) (label_range t sheet row er h c) l m

pub same_some : {X : Type 0} (o : Option X) (x y : X) → o ≡ Some x → o ≡ Some y → x ≡ y
same_some o x y e f = cc

pub none_some : {X : Type 0} (o : Option X) (x : X) → o ≡ None → o ≡ Some x → ⊥
none_some o x e f = cc
