-- Schedules, byte by byte, and what is read off them. proofs/Cases.antt computes them, and has the two that turn on the
-- limit of 64,808 bytes for every schedule of that length.
use Rattle.std.specs.Prelude.{◌≡◌, true, false, List, [], ◌∷◌, ◌++◌, map, ℕ, length, take, replicate}
use Rattle.book.specs.Steps.{Step}
use Rattle.book.specs.Sizes.{sized}
use Rattle.book.specs.Messages.{raw, put, get, order, claim, fetch, finish, look, most}
use Rattle.schedule.specs.Bytes.{is_long, is_header, size_in, whole_steps, steps_of, is_cut, bytes_of, header_of, schedule_of}

-- ---- the header

-- nothing, a byte, seven bytes, each letter and each byte of the version wrong, the two bytes of the version the other
-- way round, a wrong version before numbers outside their limits, and zeros
abbrev pub headerless : List (List ℕ)
headerless =
    []
    ∷ (76 ∷ [])
    ∷ (76 ∷ 66 ∷ 81 ∷ 0 ∷ 1 ∷ 2 ∷ 1 ∷ [])
    ∷ (0 ∷ 66 ∷ 81 ∷ 0 ∷ 1 ∷ 2 ∷ 1 ∷ 1 ∷ [])
    ∷ (76 ∷ 0 ∷ 81 ∷ 0 ∷ 1 ∷ 2 ∷ 1 ∷ 1 ∷ [])
    ∷ (76 ∷ 66 ∷ 0 ∷ 0 ∷ 1 ∷ 2 ∷ 1 ∷ 1 ∷ [])
    ∷ (76 ∷ 66 ∷ 81 ∷ 1 ∷ 1 ∷ 2 ∷ 1 ∷ 1 ∷ [])
    ∷ (76 ∷ 66 ∷ 81 ∷ 0 ∷ 0 ∷ 2 ∷ 1 ∷ 1 ∷ [])
    ∷ (76 ∷ 66 ∷ 81 ∷ 0 ∷ 2 ∷ 2 ∷ 1 ∷ 1 ∷ [])
    ∷ (76 ∷ 66 ∷ 81 ∷ 1 ∷ 0 ∷ 2 ∷ 1 ∷ 1 ∷ [])
    ∷ (76 ∷ 66 ∷ 81 ∷ 0 ∷ 2 ∷ 1 ∷ 1 ∷ 1 ∷ [])
    ∷ replicate 26 0
    ∷ []

unfoldable pub HeaderCases : Type 0
HeaderCases =
    (map is_header headerless ≡ map (λ bs. false) headerless)
    × (is_header (76 ∷ 66 ∷ 81 ∷ 0 ∷ 1 ∷ 2 ∷ 3 ∷ 4 ∷ []) ≡ true)
    × (size_in (76 ∷ 66 ∷ 81 ∷ 0 ∷ 1 ∷ 2 ∷ 3 ∷ 4 ∷ []) ≡ sized 2 3 4)

-- ---- the steps

-- each byte of A and of B counts, high byte first
abbrev pub number_steps : List Step
number_steps =
    put 999999 ∷ put 1000000 ∷ raw 0 66051 most ∷ put 16777216 ∷ order 513 515 ∷ order 1 16777217 ∷ order 65536 65535 ∷ order 65536 65537
    ∷ get ∷ get ∷ get ∷ get ∷ []

abbrev pub number_bytes : List ℕ
number_bytes =
    0 ∷ 0 ∷ 15 ∷ 66 ∷ 63 ∷ 0 ∷ 0 ∷ 0 ∷ 0
    ∷ 0 ∷ 0 ∷ 15 ∷ 66 ∷ 64 ∷ 0 ∷ 0 ∷ 0 ∷ 0
    ∷ 0 ∷ 0 ∷ 1 ∷ 2 ∷ 3 ∷ 255 ∷ 255 ∷ 255 ∷ 255
    ∷ 0 ∷ 1 ∷ 0 ∷ 0 ∷ 0 ∷ 0 ∷ 0 ∷ 0 ∷ 0
    ∷ 2 ∷ 0 ∷ 0 ∷ 2 ∷ 1 ∷ 0 ∷ 0 ∷ 2 ∷ 3
    ∷ 2 ∷ 0 ∷ 0 ∷ 0 ∷ 1 ∷ 1 ∷ 0 ∷ 0 ∷ 1
    ∷ 2 ∷ 0 ∷ 1 ∷ 0 ∷ 0 ∷ 0 ∷ 0 ∷ 255 ∷ 255
    ∷ 2 ∷ 0 ∷ 1 ∷ 0 ∷ 0 ∷ 0 ∷ 1 ∷ 0 ∷ 1
    ∷ 1 ∷ 0 ∷ 0 ∷ 0 ∷ 0 ∷ 0 ∷ 0 ∷ 0 ∷ 0
    ∷ 1 ∷ 0 ∷ 0 ∷ 0 ∷ 0 ∷ 0 ∷ 0 ∷ 0 ∷ 0
    ∷ 1 ∷ 0 ∷ 0 ∷ 0 ∷ 0 ∷ 0 ∷ 0 ∷ 0 ∷ 0
    ∷ 1 ∷ 0 ∷ 0 ∷ 0 ∷ 0 ∷ 0 ∷ 0 ∷ 0 ∷ 0
    ∷ []

unfoldable pub NumberCases : Type 0
NumberCases = (steps_of (header_of (sized 2 4 1) ++ number_bytes) ≡ number_steps) × (schedule_of (sized 2 4 1) number_steps ≡ header_of (sized 2 4 1) ++ number_bytes)

-- the code of a desk's step has the desk's number in it
unfoldable pub CodeCases : Type 0
CodeCases =
    map (λ s. take 5 (bytes_of s)) (put 7 ∷ get ∷ order 7 9 ∷ claim 15 ∷ fetch 15 ∷ finish 15 ∷ look 15 63 ∷ [])
    ≡ (0 ∷ 0 ∷ 0 ∷ 0 ∷ 7 ∷ []) ∷ (1 ∷ 0 ∷ 0 ∷ 0 ∷ 0 ∷ []) ∷ (2 ∷ 0 ∷ 0 ∷ 0 ∷ 7 ∷ []) ∷ (31 ∷ 0 ∷ 0 ∷ 0 ∷ 0 ∷ []) ∷ (47 ∷ 0 ∷ 0 ∷ 0 ∷ 0 ∷ [])
    ∷ (63 ∷ 0 ∷ 0 ∷ 0 ∷ 0 ∷ []) ∷ (79 ∷ 0 ∷ 0 ∷ 0 ∷ 63 ∷ []) ∷ []

-- ---- the end

-- the whole steps, and whether one is cut short, by the bytes behind the header
abbrev pub behind : List ℕ
behind = 0 ∷ 1 ∷ 2 ∷ 3 ∷ 4 ∷ 5 ∷ 6 ∷ 7 ∷ 8 ∷ 9 ∷ 10 ∷ 17 ∷ 18 ∷ []

unfoldable pub CutCases : Type 0
CutCases =
    (map (λ n. whole_steps (header_of (sized 2 1 1) ++ replicate n 0)) behind ≡ 0 ∷ 0 ∷ 0 ∷ 0 ∷ 0 ∷ 0 ∷ 0 ∷ 0 ∷ 0 ∷ 1 ∷ 1 ∷ 1 ∷ 2 ∷ [])
    × (map (λ n. is_cut (header_of (sized 2 1 1) ++ replicate n 0)) behind
    ≡ false ∷ true ∷ true ∷ true ∷ true ∷ true ∷ true ∷ true ∷ true ∷ false ∷ true ∷ true ∷ false ∷ [])

-- ---- the limit

-- 64,809 bytes are LONG, whatever they are; 64,808 are not
unfoldable pub LimitCases : Type 0
LimitCases = ((bs : List ℕ) → length bs ≡ 64809 → is_long bs ≡ true) × ((bs : List ℕ) → length bs ≡ 64808 → is_long bs ≡ false)
