-- What is proved of playing a schedule: demand 2 for the player, which line is the only one, and a line for each step.
-- proofs/Demands.antt has a proof of each, under the same name in small letters.
use Rattle.std.specs.Prelude.{◌≡◌, Bool, not, ◌&&◌, List, ◌++◌, ℕ, ◌+◌, T, length, if◌then◌else◌}
use Rattle.book.specs.Sizes.{fits}
use Rattle.book.specs.Book as B
use Rattle.schedule.specs.Bytes.{is_long, is_header, size_in, whole_steps, steps_of, is_cut}
use Rattle.player.specs.Spoken.{only, numbered, cut_short, played}

-- ---- demand 2

-- not too long, with its header, and the numbers within their limits
unfoldable pub opens : List ℕ → Bool
opens bs = not (is_long bs) && is_header bs && fits (size_in bs)

-- what the player says of the steps is what the book answers
unfoldable pub PlayedByBook : Type 0
PlayedByBook =
    (bs : List ℕ) → T (opens bs)
    → let z = size_in bs in played bs ≡ numbered 1 (B.answers z (B.opened z) (steps_of bs)) ++ cut_short bs

-- ---- the refusals of a whole schedule, in the paper's order, and a line for each step

unfoldable pub PlayedOnly : Type 0
PlayedOnly =
    (bs : List ℕ)
    → (T (is_long bs) → played bs ≡ only "LONG")
    × (T (not (is_long bs)) → T (not (is_header bs)) → played bs ≡ only "HEADER")
    × (T (not (is_long bs)) → T (is_header bs) → T (not (fits (size_in bs))) → played bs ≡ only "UNFIT")

unfoldable pub LineForEach : Type 0
LineForEach = (bs : List ℕ) → T (opens bs) → length (played bs) ≡ whole_steps bs + (if is_cut bs then 1 else 0)
