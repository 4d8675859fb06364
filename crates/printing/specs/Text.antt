-- The text of a line: number, word and value with a space between, numbers in decimal without leading zeros, and a
-- newline at the end. A text is a list of bytes.
use Rattle.std.specs.Prelude.{List, [], ◌∷◌, ◌++◌, ℕ, zero, suc, ◌+◌, ◌/◌, ◌%◌, if◌then◌else◌}
use Rattle.words.specs.declared.Answer.{Answer}
use Rattle.words.specs.Words.{said, letters}
use Rattle.book.specs.Choice.{◌<ᵇ◌}

abbrev pub space : ℕ
space = 32

abbrev pub newline : ℕ
newline = 10

-- the digit d, which is below 10
abbrev pub digit : ℕ → ℕ
digit d = 48 + d

-- the digits of n, high digit first, where n is at most k
unfoldable pub digits : ℕ → ℕ → List ℕ
digits zero n = digit n ∷ []
digits (suc k) n =
    let higher = digits k (n / 10) in
    if n <ᵇ 10 then digit n ∷ [] else higher ++ (digit (n % 10) ∷ [])

unfoldable pub decimal : ℕ → List ℕ
decimal n = digits n n

-- a line, its word by its letters
unfoldable pub line_text : ℕ → List ℕ → ℕ → List ℕ
line_text number word value = decimal number ++ (space ∷ (word ++ (space ∷ (decimal value ++ (newline ∷ [])))))

-- the line of an answer
abbrev pub answer_text : ℕ → Answer → List ℕ
answer_text number a = line_text number (letters (said a).word) (said a).value

-- a line's number has four digits at most
abbrev pub numbers_below : ℕ
numbers_below = 10000
