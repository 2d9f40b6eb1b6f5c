-- What a call that writes answers and leaves.
use Rattle.std.specs.Prelude.{◌≡◌, ℕ, ◌<◌, ◌≤◌, true, false, List, length, Ok, Err, Result}
use Rattle.commands.specs.declared.command.Command.{Command}
use Rattle.writing.specs.declared.unwritten.Unwritten as unwritten
use Rattle.writing.specs.Bytes.{Wrote}
use Rattle.writing.specs.Render.{writable, render}

-- the bytes and how many they are, or an output of fewer bytes than are asked for, as it was
abbrev pub Writes : ℕ → List ℕ → List ℕ → Result ℕ unwritten.Unwritten → List ℕ → Type 0
Writes room bs old (Ok n) out = (room ≤ length old) × Wrote old bs n out
Writes room bs old (Err e) out = (length old < room) × (e ≡ unwritten.TheVariants.FewBytes) × (out ≡ old)

-- a command is asked for its numbers first
abbrev pub WritesCommand : Command → List ℕ → Result ℕ unwritten.Unwritten → List ℕ → Type 0
WritesCommand c old (Ok n) out = (writable c ≡ true) × (64 ≤ length old) × Wrote old (render c) n out
WritesCommand c old (Err unwritten.TheVariants.NotNumber) out = (writable c ≡ false) × (out ≡ old)
WritesCommand c old (Err unwritten.TheVariants.FewBytes) out = (writable c ≡ true) × (length old < 64) × (out ≡ old)
