-- A number is no dash.
use Rattle.std.proofs.Common.{◌≡◌, ℕ, false, List, Some, None, codes, sym, ap, ◌∙◌, ⊎_elim}
use Rattle.std.proofs.lemmas.Slice.Eq.{bytes_eq-Decides}
use Rattle.std.proofs.lemmas.Bool.{cases_Bool}
use Rattle.words.specs.Numbers.{number_of}
use Rattle.words.specs.Sorts.{is_dash}

pub number_apart : (bs : List ℕ) (n : ℕ) → number_of bs ≡ Some n → is_dash bs ≡ false
number_apart bs n e =
    ⊎_elim
    (λ t. let none : None ≡ Some n = sym (ap number_of ((bytes_eq-Decides bs (codes "-")).0 t)) ∙ e in (cc))
    (λ f. f)
    (cases_Bool (is_dash bs))
