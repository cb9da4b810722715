-- What the lines of our programs have in common, in ASCII: the line feed after each, and the line that a program prints where it is refused: "or only
-- `refused`, a space and the number" (document 01, "Rehearsal program"). Assumes nothing.
use Rattle.std.specs.Prelude.{ℕ, List, [], ◌∷◌, ◌++◌}
use Rattle.text.specs.Decimal.{decimal}

-- the character after every line
abbrev pub line_feed : List ℕ
line_feed = 10 ∷ []

-- the character between words and numbers
abbrev pub space : ℕ
space = 32

-- `refused`, a space
abbrev pub refused_word : List ℕ
refused_word = 114 ∷ 101 ∷ 102 ∷ 117 ∷ 115 ∷ 101 ∷ 100 ∷ space ∷ []

unfoldable pub refused_line : ℕ → List ℕ
refused_line number = refused_word ++ (decimal number ++ line_feed)
