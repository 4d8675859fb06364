-- The text of what playing a schedule says: its lines, one behind the other.
use Rattle.std.specs.Prelude.{List, [], ◌∷◌, ◌++◌, ℕ}
use Rattle.words.specs.Words.{letters}
use Rattle.printing.specs.Text.{line_text}
use Rattle.player.specs.Spoken.{Spoken, played}

abbrev pub line : Spoken → List ℕ
line s = line_text s.number (letters s.word) s.value

unfoldable pub printed : List Spoken → List ℕ
printed [] = []
printed (s ∷ rest) = line s ++ printed rest

-- what the player prints for a schedule
abbrev pub text : List ℕ → List ℕ
text bs = printed (played bs)
