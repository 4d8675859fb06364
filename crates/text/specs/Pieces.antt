-- The pieces of a text: its lines, the words of a line, and the number that a word says.
use Rattle.std.specs.Prelude.{Bool, true, false, not, ◌&&◌, ◌||◌, List, [], ◌∷◌, ℕ, zero, suc, ◌-◌, length, get_or, take, drop, if◌then◌else◌, Option, Some, None}
use Rattle.std.specs.List.{position_or_len}
use Rattle.std.specs.Option.{option_map, option_and_then}
use Rattle.book.specs.Choice.{◌≤ᵇ◌, ◌≡ᵇ◌}
use Rattle.book.specs.Total.{all}
use Rattle.printing.specs.Decimal.{read_from, is_digit}

-- ---- lines

-- a byte more in front of the first line
abbrev pub onto : ℕ → List (List ℕ) → List (List ℕ)
onto b [] = (b ∷ []) ∷ []
onto b (l ∷ ls) = (b ∷ l) ∷ ls

-- a newline ends a line, and so does the end of the text
unfoldable pub lines : List ℕ → List (List ℕ)
lines [] = []
lines (b ∷ t) = if b ≡ᵇ 10 then [] ∷ lines t else onto b (lines t)

-- a carriage return at a line's end is no part of it
unfoldable pub bare_length : List ℕ → ℕ
bare_length l = if get_or l (length l - 1) 0 ≡ᵇ 13 then length l - 1 else length l

abbrev pub bare : List ℕ → List ℕ
bare l = take (bare_length l) l

-- ---- words

-- space and tab
abbrev pub is_blank : ℕ → Bool
is_blank b = b ≡ᵇ 32 || b ≡ᵇ 9

abbrev pub is_letter : ℕ → Bool
is_letter b = not (is_blank b)

-- the first word, between blanks, and what stands behind it
unfoldable pub skip : List ℕ → List ℕ
skip l = drop (position_or_len is_letter l) l

unfoldable pub word : List ℕ → List ℕ
word l = take (position_or_len is_blank (skip l)) (skip l)

unfoldable pub behind : List ℕ → List ℕ
behind l = drop (position_or_len is_blank (skip l)) (skip l)

abbrev pub is_none : List ℕ → Bool
is_none [] = true
is_none (b ∷ l) = false

-- the words, of which there are at most as many as bytes
unfoldable pub words_up_to : ℕ → List ℕ → List (List ℕ)
words_up_to zero l = []
words_up_to (suc k) l = if is_none (word l) then [] else word l ∷ words_up_to k (behind l)

unfoldable pub words : List ℕ → List (List ℕ)
words l = words_up_to (length l) l

-- ---- numbers

-- the greatest number of 32 bits
abbrev pub greatest : ℕ
greatest = 4294967295

-- digits, one or more, that say such a number
unfoldable pub is_number : List ℕ → Bool
is_number w = not (is_none w) && (all is_digit w && read_from 0 w ≤ᵇ greatest)

-- the number that a word says
unfoldable pub number : List ℕ → Option ℕ
number w = if is_number w then Some (read_from 0 w) else None

-- the numbers that words say; none where one of them says no number
unfoldable pub numbers_of : List (List ℕ) → Option (List ℕ)
numbers_of [] = Some []
numbers_of (w ∷ ws) = option_and_then (λ n. option_map (λ ns. n ∷ ns) (numbers_of ws)) (number w)

abbrev pub numbers : List ℕ → Option (List ℕ)
numbers l = numbers_of (words l)

-- the byte that a word says
unfoldable pub byte : List ℕ → Option ℕ
byte w = option_and_then (λ n. if n ≤ᵇ 255 then Some n else None) (number w)
