-- Schedules, as bytes, and their text. proofs/Cases.antt computes them.
use Rattle.std.specs.Prelude.{◌≡◌, [], ◌∷◌, ◌++◌, map, codes}
use Rattle.book.specs.Sizes.{sized}
use Rattle.book.specs.Messages.{raw, put, get, order, claim, fetch, finish, look, most}
use Rattle.schedule.specs.Bytes.{schedule_of}
use Rattle.shown.specs.Shown.{step_text, text}

-- each form, by the numbers that its code does not ignore
unfoldable pub ShownCases : Type 0
ShownCases =
    map step_text (put 7 ∷ put most ∷ get ∷ order 1 5 ∷ claim 15 ∷ fetch 0 ∷ finish 1 ∷ look 2 3 ∷ look 15 most ∷ [])
    ≡ map codes
    ("put 7\n" ∷ "put 4294967295\n" ∷ "get\n" ∷ "order 1 5\n" ∷ "claim 15\n" ∷ "fetch 0\n" ∷ "finish 1\n" ∷ "look 2 3\n" ∷ "look 15 4294967295\n" ∷ [])

-- ignored numbers that are not 0, and codes that no step has
unfoldable pub IgnoredCases : Type 0
IgnoredCases =
    map step_text
    (raw 0 7 1 ∷ raw 1 1 0 ∷ raw 1 0 1 ∷ raw 16 1 0 ∷ raw 31 0 1 ∷ raw 32 1 0 ∷ raw 47 0 1 ∷ raw 48 1 0 ∷ raw 63 0 1 ∷ raw 64 1 1 ∷ raw 3 0 0
    ∷ raw 15 0 0 ∷ raw 80 1 2 ∷ raw 255 most most ∷ [])
    ≡ map codes
    ("step 0 7 1\n" ∷ "step 1 1 0\n" ∷ "step 1 0 1\n" ∷ "step 16 1 0\n" ∷ "step 31 0 1\n" ∷ "step 32 1 0\n" ∷ "step 47 0 1\n" ∷ "step 48 1 0\n"
    ∷ "step 63 0 1\n" ∷ "step 64 1 1\n" ∷ "step 3 0 0\n" ∷ "step 15 0 0\n" ∷ "step 80 1 2\n" ∷ "step 255 4294967295 4294967295\n" ∷ [])

-- a whole schedule: no step, steps, and a step that is cut short
unfoldable pub TextCases : Type 0
TextCases =
    map text (schedule_of (sized 2 1 16) [] ∷ schedule_of (sized 2 64 1) (put 9 ∷ get ∷ []) ∷ (schedule_of (sized 2 1 1) (get ∷ []) ++ (0 ∷ 255 ∷ 7 ∷ [])) ∷ [])
    ≡ map codes ("size 2 1 16\n" ∷ "size 2 64 1\nput 9\nget\n" ∷ "size 2 1 1\nget\nbytes 0 255 7\n" ∷ [])
