-- The words of a line as they are handed to be written.
use Rattle.std.specs.Prelude.{ℕ, ◌+◌, List, [], ◌∷◌, length, decimal}
use Rattle.std.specs.Fmt.{signed_decimal}
use Rattle.writing.specs.declared.word.Word.{Word}
use Rattle.writing.specs.declared.word.Word.TheVariants.{Text, Letter, Number, Label, Wide, Signed}
use Rattle.writing.specs.Render.{dashed}

abbrev pub text_of : Word → List ℕ
text_of (Text text) = text.now
text_of (Letter b) = b ∷ []
text_of (Number n) = decimal n
text_of (Label label) = dashed label
text_of (Wide n) = decimal n
text_of (Signed z) = signed_decimal z

-- the most bytes that a word takes, with the space or line feed behind it
abbrev pub room_of : Word → ℕ
room_of (Text text) = length text.now + 1
room_of (Letter b) = 2
room_of (Number n) = 11
room_of (Label label) = 11
room_of (Wide n) = 21
room_of (Signed z) = 21
