-- What the console says of a line, and of a whole text.
use Rattle.std.specs.Prelude.{◌≡◌, ℕ, ◌+◌, ◌<◌, ◌≤◌, Bool, List, [], ◌∷◌, ◌++◌, length, Some, None, Ok, Err, codes, MatchBool, Option, Result, nat_lt}
use Rattle.commands.specs.Faults as faults
use Rattle.commands.specs.Parsing.{reading}
use Rattle.commands.specs.declared.command.Command.{Command}
use Rattle.commands.specs.declared.fault.Fault.{Fault}
use Rattle.packages.specs.declared.reading.Reading.{Reading}
use Rattle.sheet.specs.Closing.{Recorded}
use Rattle.sheet.specs.Refusals.{Account}
use Rattle.sheet.specs.Terms.{Terms}
use Rattle.sheet.specs.declared.call.Phase.{Phase}
use Rattle.sheet.specs.declared.record.Record.{Record}
use Rattle.words.specs.Lines.{Placed, words, lines}
use Rattle.writing.specs.Bytes.{Wrote}
use Rattle.writing.specs.Report.{report, refusal_line, still_open}
use Rattle.writing.specs.declared.unwritten.Unwritten.{Unwritten}
use Rattle.writing.specs.declared.unwritten.Unwritten.TheVariants.{FewBytes}
use Rattle.console.specs.declared.session.Session.{Session}
use Rattle.console.specs.declared.session.Session.TheVariants as session
use Rattle.console.specs.Denials.{account}
use Rattle.console.specs.Effects.{Standing, idle, inspecting, closed, Reply, Effect, quiet, denied, reported, effect}

-- the column of the first word
abbrev pub first_column : List Placed → ℕ
first_column [] = 1
first_column (w ∷ ws) = w.0

abbrev pub refused_at : ℕ → ℕ → Account → List ℕ
refused_at line column account = refusal_line line column account.letter account.number

-- what a reply prints
abbrev pub told_by : ℕ → ℕ → Reply → List ℕ
told_by line column (Ok None) = []
told_by line column (Ok (Some rec)) = report rec
told_by line column (Err d) = refused_at line column (account d)

-- what a line comes to: bytes that are said and how the inspection goes on, or the report of a closing
pub data Said : Type 0 where
  says : List ℕ → Standing → List Reading → Said
  reports : Terms → Phase → Said

abbrev pub of_effect : ℕ → ℕ → Standing → List Reading → Effect → Said
of_effect line column st rows (quiet st₁ rows₁) = says [] st₁ rows₁
of_effect line column st rows (denied d) = says (refused_at line column (account d)) st rows
of_effect line column st rows (reported t ph) = reports t ph

abbrev pub of_reading : Bool → ℕ → ℕ → Standing → List Reading → Result (Option Command) Fault → Said
of_reading labeled line column st rows (Err f) = says (refused_at f.line f.column (faults.account f.why)) st rows
of_reading labeled line column st rows (Ok None) = says [] st rows
of_reading labeled line column st rows (Ok (Some c)) = of_effect line column st rows (effect labeled st rows c)

-- a line, with its number
abbrev pub said : Bool → ℕ → List ℕ → Standing → List Reading → Said
said labeled line text st rows = of_reading labeled line (first_column (words 1 text)) st rows (reading line text)

-- the report of the record that the closing makes is what was written
pub record Reported (t : Terms) (ph : Phase) (rows : List Reading) (old : List ℕ) (n : ℕ) (out : List ℕ) : Type 0 where
  pub rec : Record
  pub decided : Recorded t ph rows rec
  pub wrote : Wrote old (report rec) n out

abbrev pub Speaks : Said → List Reading → List ℕ → ℕ → List ℕ → Standing → List Reading → Type 0
Speaks (says bs st rows') rows old n out st₁ rows₁ = Wrote old bs n out × (st₁ ≡ st) × (rows₁ ≡ rows')
Speaks (reports t ph) rows old n out st₁ rows₁ = Reported t ph rows old n out × (st₁ ≡ closed) × (rows₁ ≡ rows)

-- a console call: an output below 256 bytes is refused and leaves all as it was
abbrev pub Answers : Said → Standing → List Reading → List ℕ → Result ℕ Unwritten → List ℕ → Standing → List Reading → Type 0
Answers s st rows old (Ok n) out st₁ rows₁ = (256 ≤ length old) × Speaks s rows old n out st₁ rows₁
Answers s st rows old (Err e) out st₁ rows₁ = (length old < 256) × (e ≡ FewBytes) × (out ≡ old) × (st₁ ≡ st) × (rows₁ ≡ rows)

-- said last
abbrev pub ending : Standing → List ℕ
ending idle = still_open
ending (inspecting t ph) = still_open
ending closed = []

-- bytes, and then what goes on
pub record Then (bs : List ℕ) (next : List ℕ → Type 0) (out : List ℕ) : Type 0 where
  pub rest : List ℕ
  pub on : next rest
  pub whole : out ≡ bs ++ rest

pub record ThenReported (t : Terms) (ph : Phase) (rows : List Reading) (next : List ℕ → Type 0) (out : List ℕ) : Type 0 where
  pub rec : Record
  pub decided : Recorded t ph rows rec
  pub then : Then (report rec) next out

abbrev pub GoesOn : Said → List Reading → (Standing → List Reading → List ℕ → Type 0) → List ℕ → Type 0
GoesOn (says bs st rows') rows next out = Then bs (next st rows') out
GoesOn (reports t ph) rows next out = ThenReported t ph rows (next closed rows) out

-- what is said of lines, one after the other, from a number on
abbrev pub Told : Bool → ℕ → List (List ℕ) → Standing → List Reading → List ℕ → Type 0
Told labeled n [] st rows out = out ≡ ending st
Told labeled n (l ∷ ls) st rows out = GoesOn (said labeled n l st rows) rows (λ st₁ rows₁ out₁. Told labeled (n + 1) ls st₁ rows₁ out₁) out

-- the transcript of a whole text over a package list that holds rows
abbrev pub Transcript : Bool → List ℕ → List Reading → List ℕ → Type 0
Transcript labeled text rows out = MatchBool (nat_lt 65536 (length text)) (out ≡ codes "1 1 T 1\n") (Told labeled 1 (lines text) idle rows out)

-- the last call: it hands the inspection back where the output is below 256 bytes
abbrev pub last_words : Session → List ℕ
last_words session.Idle = still_open
last_words (session.Open s) = still_open
last_words session.Closed = []

abbrev pub Ended : Session → List ℕ → Result ℕ (Session × Unwritten) → List ℕ → Type 0
Ended s old (Ok n) out = (256 ≤ length old) × Wrote old (last_words s) n out
Ended s old (Err back) out = (length old < 256) × (back.0 ≡ s) × (back.1 ≡ FewBytes) × (out ≡ old)

-- a text has one transcript
abbrev pub OneTranscript : Type 0
OneTranscript = (labeled : Bool) (text : List ℕ) (rows : List Reading) (a b : List ℕ) → Transcript labeled text rows a → Transcript labeled text rows b → a ≡ b
