-- Schedules, as bytes, and the text that playing them prints. proofs/Cases.antt computes them, and has the two that
-- turn on the limit of 64,808 bytes for every schedule of that length.
use Rattle.std.specs.Prelude.{◌≡◌, false, List, [], ◌∷◌, ◌++◌, map, ℕ, length, take}
use Prim.Native.String.{String}
use Rattle.words.specs.Words.{letters}
use Rattle.book.specs.Steps.{Step}
use Rattle.book.specs.Sizes.{sized}
use Rattle.book.specs.Messages.{raw, put, get, order, claim, fetch, finish, look}
use Rattle.schedule.specs.Bytes.{is_header, bytes_of, header_of, schedule_of}
use Rattle.schedule.specs.Cases.{headerless, number_bytes}
use Rattle.player.specs.Printed.{text}

pub record Case : Type 0 where
  pub bytes : List ℕ
  pub lines : String

abbrev pub prints : List ℕ → String → Case
prints bs s = record { bytes = bs; lines = s }

abbrev pub Printed : List Case → Type 0
Printed cs = map (λ c. text c.bytes) cs ≡ map (λ c. letters c.lines) cs

-- NB, NE and T, and the steps
abbrev pub schedule : ℕ → ℕ → ℕ → List Step → List ℕ
schedule nb ne t steps = schedule_of (sized nb ne t) steps

-- ---- the listing

unfoldable pub ListingCases : Type 0
ListingCases =
    Printed
    (prints
    (schedule 2 2 2
    (order 1 5 ∷ look 0 1 ∷ look 1 1 ∷ claim 0 ∷ claim 1 ∷ get ∷ get ∷ get ∷ put 5 ∷ put 6 ∷ put 7 ∷ get ∷ put 7 ∷ fetch 0 ∷ finish 0
    ∷ put 7 ∷ get ∷ get ∷ get ∷ look 1 0 ∷ []))
    "1 FULL 4\n2 SEEN 0\n3 SEEN 0\n4 CLAIMED 0\n5 LOST 0\n6 GOT 1\n7 GOT 2\n8 GOT 4\n9 PUT 5\n10 PUT 6\n11 FULL 0\n12 GOT 5\n13 BUSY 0\n14 TOOK 3\n15 DONE 0\n16 PUT 7\n17 GOT 6\n18 GOT 7\n19 EMPTY 0\n20 OWNED 0\n"
    ∷ [])

-- ---- the header, the numbers and the end

-- each wrong header, with numbers outside their limits behind one of them: HEADER comes before UNFIT
unfoldable pub HeaderCases : Type 0
HeaderCases = Printed (map (λ bs. prints bs "0 HEADER 0\n") headerless)

-- each number outside its limits, with steps behind and without
unfoldable pub UnfitCases : Type 0
UnfitCases =
    Printed
    (map (λ bs. prints bs "0 UNFIT 0\n")
    (schedule 1 1 1 [] ∷ schedule 65 1 1 [] ∷ schedule 2 0 1 [] ∷ schedule 2 65 1 [] ∷ schedule 2 1 0 [] ∷ schedule 2 1 17 []
    ∷ schedule 0 0 0 (put 1 ∷ get ∷ []) ∷ (schedule 255 255 255 (put 1 ∷ []) ++ (0 ∷ [])) ∷ []))

-- a schedule of eight bytes says nothing; a step cut short is the last line, under the next number, with any of one to
-- eight bytes
unfoldable pub CutCases : Type 0
CutCases =
    Printed
    (prints (schedule 2 1 1 []) ""
    ∷ prints (schedule 2 1 1 (get ∷ [])) "1 EMPTY 0\n"
    ∷ prints (schedule 2 1 1 [] ++ (0 ∷ [])) "1 CUT 0\n"
    ∷ prints (schedule 2 1 1 [] ++ take 8 (bytes_of (put 9))) "1 CUT 0\n"
    ∷ prints (schedule 2 1 1 (put 9 ∷ []) ++ take 1 (bytes_of get)) "1 PUT 9\n2 CUT 0\n"
    ∷ prints (schedule 2 1 1 (put 9 ∷ get ∷ []) ++ take 8 (bytes_of get)) "1 PUT 9\n2 GOT 9\n3 CUT 0\n"
    ∷ [])

-- ---- steps and numbers

-- NB, NE and T are the sixth, seventh and eighth byte
unfoldable pub SizeCases : Type 0
SizeCases =
    Printed
    (prints (schedule 3 1 1 (order 1 9 ∷ look 0 3 ∷ look 1 0 ∷ [])) "1 FULL 3\n2 NOBLOCK 0\n3 NODESK 0\n"
    ∷ prints (schedule 2 4 1 (order 1 9 ∷ look 0 2 ∷ look 1 0 ∷ [])) "1 FULL 8\n2 NOBLOCK 0\n3 NODESK 0\n"
    ∷ prints (schedule 2 1 5 (look 4 0 ∷ look 5 0 ∷ [])) "1 OWNED 0\n2 NODESK 0\n"
    ∷ [])

-- each byte of A and of B counts, high byte first
unfoldable pub NumberCases : Type 0
NumberCases =
    Printed
    (prints (header_of (sized 2 4 1) ++ number_bytes)
    "1 PUT 999999\n2 NOTLABEL 0\n3 PUT 66051\n4 NOTLABEL 0\n5 WHOLE 3\n6 RANGE 0\n7 RANGE 0\n8 WHOLE 2\n9 GOT 999999\n10 GOT 66051\n11 GOT 513\n12 GOT 514\n"
    ∷ [])

-- every good word, and the refusals that a schedule can meet
unfoldable pub WordCases : Type 0
WordCases =
    Printed
    (prints
    (schedule 2 1 1
    (order 1 2 ∷ look 0 1 ∷ claim 0 ∷ fetch 0 ∷ finish 0 ∷ look 0 1 ∷ get ∷ put 0 ∷ raw 3 0 0 ∷ raw 255 0 0 ∷ claim 0 ∷ []))
    "1 WHOLE 2\n2 SEEN 0\n3 CLAIMED 0\n4 TOOK 2\n5 DONE 0\n6 NOTHING 0\n7 GOT 1\n8 FULL 0\n9 BADSTEP 0\n10 BADSTEP 0\n11 STAGE 0\n"
    ∷ [])

-- ---- the limit

-- 64,809 bytes are LONG, whatever they are; 64,808 are not
unfoldable pub LimitCases : Type 0
LimitCases =
    ((bs : List ℕ) → length bs ≡ 64809 → text bs ≡ letters "0 LONG 0\n")
    × ((bs : List ℕ) → length bs ≡ 64808 → is_header bs ≡ false → text bs ≡ letters "0 HEADER 0\n")

-- ---- the cases that compute, all of them

unfoldable pub PlayerCases : Type 0
PlayerCases = ListingCases × HeaderCases × UnfitCases × CutCases × SizeCases × NumberCases × WordCases
