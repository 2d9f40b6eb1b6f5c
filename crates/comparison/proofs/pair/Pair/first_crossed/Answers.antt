use Rattle.std.proofs.Common.{◌≡◌, ℕ, ◌<◌, ◌≤◌, List, length, get_or, ℤ, pos, ⊎_elim, arith, sym, ap, ◌∙◌, subst, w32, SFits, rules}
use Rattle.std.specs.List.{zip, enumerate_from}
use Rattle.std.specs.Iterator.Adapters.{zip_first, zip_second}
use Rattle.std.proofs.iter.Yields.{fronts}
use Rattle.std.proofs.lemmas.Bool.{cases_lt}
use Rattle.std.proofs.lemmas.Int.{to_z-of_z}
use Rattle.std.proofs.lemmas.Iterator.{YieldsList, YieldsList-from_slice, YieldsList-from_zip}
use Rattle.std.proofs.lemmas.Iterator.Consumers.{YieldsList-from_enumerate, YieldsList-turn, YieldsList-at}
use Rattle.std.proofs.lemmas.List.{get_or_read, length_push}
use Rattle.std.proofs.lemmas.List.FromFn.{length-enumerate_from, get_or-enumerate_from}
use Rattle.std.proofs.lemmas.Slice.Zip.{length-zip, get_or-zip}
use Rattle.comparison.specs.Rises.{at, Crosses}
use Rattle.comparison.proofs.pair.Pair.first_crossed.Goals as goal

-- the pair at a place has the errors there
at_place : (es ds : List ℤ) (n i : ℕ) (a b : ℤ) → n < length (enumerate_from 0 (zip es ds)) → (i, (a, b)) ≡ get_or (enumerate_from 0 (zip es ds)) n (i, (a, b)) →
    ◌≡◌ {A = ℤ × ℤ} (a, b) (at es n, at ds n)
at_place es ds n i a b l e =
    let m = length-zip es ds in
    let k : n < length (zip es ds) = omega (arith, length-enumerate_from 0 (zip es ds)) in
    let le : n < length es = omega arith in
    let ld : n < length ds = omega arith in
    let p = ap (λ (x : ℕ × (ℤ × ℤ)). x.1) (e ∙ get_or-enumerate_from 0 (zip es ds) n (i, (a, b)) k) ∙ get_or-zip es ds n (a, b) le ld in
    let f = get_or_read es n a le (ap (λ (x : ℤ × ℤ). x.0) p) (pos 0) in
    let g = get_or_read ds n b ld (ap (λ (x : ℤ × ℤ). x.1) p) (pos 0) in
    cc

pub loop-j-preserved : goal.loop-j-preserved
loop-j-preserved c j jl k kl x =
    let es = c.args.self.now.first.now in
    let ds = c.args.self.now.second.now in
    let n = length c.loop-j.yielded in
    let one : YieldsList fronts (λ y. y.now) (zip_first c.zip.result) es = YieldsList-from_slice es cc in
    let two : YieldsList fronts (λ y. y.now) (zip_second c.zip.result) ds = YieldsList-from_slice ds cc in
    let road = YieldsList-at c.into_iter-j-iterator.ensures.into_iter_gives (YieldsList-from_enumerate {s = c.enumerate-j-items.result} (YieldsList-at c.enumerate-j-items.ensures.source (YieldsList-from_zip {s = c.zip.result} one two)) c.enumerate-j-items.ensures.count) in
    let t = YieldsList-turn road c.loop-j.yielded c.loop-j.j-iterator c.loop-j.yielded_by c.next.result c.next.new.self (c.in-Some.j, (c.in-Some.first, c.in-Some.second)) c.in-Some.is c.next.ensures.steps in
    let e = at_place es ds n _ _ _ t.0 t.1 in
    let f : SFits w32 c.in-Some.first.now = search rules in
    let g : SFits w32 c.in-Some.second.now = search rules in
    let more = length_push c.loop-j.yielded (c.in-Some.j, (c.in-Some.first, c.in-Some.second)) in
    ⊎_elim (λ (l : j < n). c.loop-j.invariant j l k kl x)
    (λ (l : n ≤ j). let s : j ≡ n = omega (arith, jl, more, l) in c.in_default.ensures k kl (simp to_z-of_z (subst (λ p. Crosses p (at es k, at ds k)) (sym e) (subst (λ i. Crosses (at es i, at ds i) (at es k, at ds k)) s x))))
    (cases_lt j n)
