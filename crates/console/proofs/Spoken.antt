-- What was replied and what was written, as the console's answer.
use Rattle.std.proofs.Common.{ℕ, ◌≤◌, List, length, Some, None, Ok, Err, Result, subst, arith}
use Rattle.packages.specs.declared.reading.Reading.{Reading}
use Rattle.writing.specs.Bytes.{Wrote}
use Rattle.writing.specs.Writes.{Writes}
use Rattle.writing.specs.declared.unwritten.Unwritten.{Unwritten}
use Rattle.console.specs.Effects.{Standing, Reply, Effect, quiet, denied, reported, Follows}
use Rattle.console.specs.Transcripts.{told_by, of_effect, Answers}

module _ (line column : ℕ) (st st₁ : Standing) (rows rows₁ : List Reading) (old out : List ℕ) where
  ok : (e : Effect) (reply : Reply) (n : ℕ) → Follows e st rows reply st₁ rows₁ → Writes 256 (told_by line column reply) old (Ok n) out → Answers (of_effect line column st rows e) st rows old (Ok n) out st₁ rows₁
  ok (quiet st' rows') reply n f w = (w.0, (subst (λ reply. Wrote old (told_by line column reply) n out) f.0 w.1, f.1, f.2))
  ok (denied d) reply n f w = (w.0, (subst (λ reply. Wrote old (told_by line column reply) n out) f.0 w.1, f.1, f.2))
  ok (reported t ph) (Ok None) n f w = absurd f.0
  ok (reported t ph) (Err d) n f w = absurd f.0
  ok (reported t ph) (Ok (Some rec)) n f w = (w.0, (record { rec = rec; decided = f.0; wrote = w.1 }, f.1, f.2))

  pub spoken : (e : Effect) (reply : Reply) (r : Result ℕ Unwritten) → 256 ≤ length old → Follows e st rows reply st₁ rows₁ → Writes 256 (told_by line column reply) old r out
      → Answers (of_effect line column st rows e) st rows old r out st₁ rows₁
  spoken e reply (Ok n) room f w = ok e reply n f w
  spoken e reply (Err why) room f w = absurd (omega (arith, w.0, room))
