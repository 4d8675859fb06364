-- What a function that writes promises: bytes stored from a place on, and the place behind them. And the room that it
-- asks for.
use Rattle.std.specs.Prelude.{◌≡◌, List, ℕ, ◌+◌, ◌≤◌, length}
use Rattle.std.proofs.lemmas.List.Edits.{sets}

-- a word has eight letters at most
abbrev pub letters_most : ℕ
letters_most = 8

-- there is room for the bytes xs from place at on, they are stored there, and the answer is the place behind them
pub record Writes (at : ℕ) (xs before : List ℕ) (r : ℕ) (after : List ℕ) : Type 0 where
  pub room : r ≤ length before
  pub answer : r ≡ at + length xs
  pub bytes : after ≡ sets before at xs

-- a line has 25 bytes at most: a number of four digits, a word of eight letters, a value of ten digits, two spaces and
-- a newline
abbrev pub line_most : ℕ
line_most = 25
