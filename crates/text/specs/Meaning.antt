-- What a text means: the bytes of its lines, one behind the other, or the first line that is refused and what was wanted there.
use Rattle.std.specs.Prelude.{List, [], ◌∷◌, ◌++◌, map, ℕ, zero, suc, ◌+◌, length, drop, if◌then◌else◌, Result, Ok, Err}
use Rattle.std.specs.Int.{to_be_bytes, w32}
use Rattle.std.specs.Option.{unwrap_or}
use Rattle.book.specs.Choice.{◌<ᵇ◌}
use Rattle.text.specs.declared.wanted.Wanted.{Wanted}
use Rattle.text.specs.declared.wanted.Wanted.TheVariants.{Room}
use Rattle.text.specs.declared.wanted.Bad.{Bad}
use Rattle.text.specs.declared.wanted.Bad.TheVariants.{TooLong, Line}
use Rattle.text.specs.declared.items.Item.{Item}
use Rattle.text.specs.declared.items.Item.TheVariants.{Nothing, Header, Steps, Numbers, Named}
use Rattle.text.specs.Pieces.{lines, bare, behind, words, byte}
use Rattle.text.specs.Items.{item, name_of, is_named}

-- ---- bytes

-- a number's low four bytes, high byte first
abbrev pub four : ℕ → List ℕ
four n = to_be_bytes w32 n

abbrev pub step_bytes : ℕ → ℕ → ℕ → List ℕ
step_bytes code a b = code ∷ (four a ++ four b)

abbrev pub header_bytes : ℕ → ℕ → ℕ → List ℕ
header_bytes nb ne t = 76 ∷ 66 ∷ 81 ∷ 0 ∷ 1 ∷ nb ∷ ne ∷ t ∷ []

-- the bytes that words say
abbrev pub word_bytes : List (List ℕ) → List ℕ
word_bytes ws = map (λ w. unwrap_or (byte w) 0) ws

unfoldable pub repeat : ℕ → List ℕ → List ℕ
repeat zero xs = []
repeat (suc n) xs = xs ++ repeat n xs

-- the bytes of a line's item; k is the length of the schedule that a name starts
unfoldable pub said : List ℕ → ℕ → Item → List ℕ
said l k Nothing = []
said l k (Header nb ne t) = header_bytes nb ne t
said l k (Steps n code a b) = repeat n (step_bytes code a b)
said l k Numbers = word_bytes (words (behind l))
said l k Named = name_of l ++ (10 ∷ four k)

-- those of a line, which has none where it is refused
abbrev pub said_by : List ℕ → ℕ → Result Item Wanted → List ℕ
said_by l k (Ok i) = said l k i
said_by l k (Err w) = []

-- how many bytes the lines up to the next name have
unfoldable pub section : List (List ℕ) → ℕ
section [] = 0
section (l ∷ ls) =
    let i = item (bare l) in
    if is_named i then 0 else length (said_by (bare l) 0 i) + section ls

-- ---- the whole text

-- the longest text, and the room for its bytes
abbrev pub text_limit : ℕ
text_limit = 262144

abbrev pub room_bytes : ℕ
room_bytes = 262144

abbrev pub Meaning : Type 0
Meaning = Result (List ℕ) Bad

abbrev pub bytes : List ℕ → Meaning
bytes bs = Ok bs

abbrev pub refused : ℕ → Wanted → Meaning
refused n w = Err (Line n w)

-- line n, where the bytes up to its end are those that `all` makes of its item, and those behind it
module _ (n : ℕ) (all : Item → List ℕ) (next : List ℕ → Meaning) where
  abbrev pub going_by : Result Item Wanted → Meaning
  going_by (Err w) = refused n w
  going_by (Ok i) = if room_bytes <ᵇ length (all i) then refused n Room else next (all i)

-- line n and those behind it, where the lines before it have the bytes done
unfoldable pub going : ℕ → List ℕ → List (List ℕ) → Meaning
going n done [] = bytes done
going n done (l ∷ ls) = going_by n (λ i. done ++ said (bare l) (section ls) i) (λ all. going (suc n) all ls) (item (bare l))

unfoldable pub meaning : List ℕ → Meaning
meaning t = if text_limit <ᵇ length t then Err TooLong else going 1 [] (lines t)

-- ---- the promise

-- the answer, and what stands in the room afterwards: the bytes and what stood behind them, or all as it was
abbrev pub outcome : Meaning → List ℕ → Result ℕ Bad × List ℕ
outcome (Ok bs) before = (Ok (length bs), bs ++ drop (length bs) before)
outcome (Err b) before = (Err b, before)
