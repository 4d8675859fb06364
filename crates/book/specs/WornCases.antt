-- WORN: NE 1, NB 2, put and get by turns: 131,072 labels placed, then WORN. And its tests, at books that no short run reaches.
use Rattle.std.specs.Prelude.{◌≡◌, true, false, List, [], ◌∷◌, ◌++◌, ℕ, zero, suc, ◌-◌, ◌≤◌, replicate}
use Rattle.words.specs.declared.Answer.{Answer}
use Rattle.words.specs.declared.Answer.TheVariants.{Put, Got}
use Rattle.words.specs.declared.Refusal.TheVariants.{Notlabel, Worn}
use Rattle.book.specs.Sizes.{sized}
use Rattle.book.specs.Steps.{Step, idle}
use Rattle.book.specs.Verdicts.{takes, refuses, startable, placeable}
use Rattle.book.specs.Book.{Book, opened, answers, after, put_step}
use Rattle.book.specs.Messages.{put, get}
use Rattle.book.specs.Cases.{no}

-- the book once label 1 was put and got n times
abbrev pub by_turns : ℕ → Book
by_turns n = record { rows = replicate n (record { label = 1; gone = true }); k = n - 1; desks = idle ∷ [] }

-- n times put 1 and get, and the answers where each is placed
unfoldable pub put_and_get : ℕ → List Step
put_and_get zero = []
put_and_get (suc n) = put 1 ∷ get ∷ put_and_get n

unfoldable pub placed_and_got : ℕ → List Answer
placed_and_got zero = []
placed_and_got (suc n) = Put 1 ∷ Got 1 ∷ placed_and_got n

-- each of the first 131,072 labels is placed and got, and the next is WORN
unfoldable pub WornRun : Type 0
WornRun =
    let z = sized 2 1 1 in
    ((n : ℕ) → n ≤ 131072 → (answers z (opened z) (put_and_get n) ≡ placed_and_got n) × (after z (opened z) (put_and_get n) ≡ by_turns n))
    × (answers z (opened z) (put_and_get 131072 ++ (put 1 ∷ [])) ≡ placed_and_got 131072 ++ (no Worn ∷ []))

unfoldable pub WornCases : Type 0
WornCases =
    (after (sized 2 1 1) (opened (sized 2 1 1)) (put 1 ∷ get ∷ put 1 ∷ get ∷ put 1 ∷ get ∷ []) ≡ by_turns 3)
    -- label 131,072 is placed, and no other
    × ((put_step (sized 2 1 1) (by_turns 131071) 5).answer ≡ Put 5)
    × ((put_step (sized 2 1 1) (by_turns 131072) 5).answer ≡ no Worn)
    -- NOTLABEL before WORN; WORN before FULL, where K is Q, and before BUSY
    × (placeable (sized 2 1 1) 131071 1 131070 true 1000000 ≡ refuses Notlabel)
    × (placeable (sized 2 1 1) 131071 1 131070 true 5 ≡ refuses Worn)
    × (placeable (sized 2 1 1) 131071 1 131071 true 5 ≡ refuses Worn)
    -- 64 blocks: the last turn has round 65,535
    × (startable (sized 64 64 1) 4194302 false 4194303 ≡ takes)
    × (startable (sized 64 64 1) 4194303 false 4194304 ≡ refuses Worn)
