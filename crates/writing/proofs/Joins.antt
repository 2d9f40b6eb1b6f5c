-- What is known of a command's line that was printed.
use Rattle.std.proofs.Common.{◌≡◌, ℕ, true, List, take, Some, Ok, Err, IfOk, Result, ap, ◌∙◌}
use Rattle.commands.specs.Parsing.{reading}
use Rattle.commands.specs.declared.command.Command.{Command}
use Rattle.writing.specs.Render.{writable, render}
use Rattle.writing.specs.Writes.{Writes}
use Rattle.writing.specs.declared.unwritten.Unwritten.{Unwritten}
use Rattle.writing.proofs.Lines.{front}
use Rattle.writing.proofs.RoundTrip.{round_trip, apart}

module _ (c : Command) (small : writable c ≡ true) (old out : List ℕ) where
  pub reads : (r : Result ℕ Unwritten) → Writes 64 (render c) old r out → IfOk r (λ n. (line : ℕ) → reading line (take n out) ≡ Ok (Some c))
  reads (Ok n) w = λ line. ap (reading line) (front w.1) ∙ round_trip line c small
  reads (Err e) w = tt

  pub alone : (r : Result ℕ Unwritten) → Writes 64 (render c) old r out → IfOk r (λ n. (d : Command) → writable d ≡ true → render d ≡ take n out → d ≡ c)
  alone (Ok n) w = λ d also e. apart d c also small (e ∙ front w.1)
  alone (Err e) w = tt
