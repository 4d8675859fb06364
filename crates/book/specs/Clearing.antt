-- Nothing is ever stuck: from every book that a run reaches a stated run of a stated length at most hands over every label, and the
-- next label put is placed. proofs/Clearing.antt has a proof of each statement, under the same name in small letters.
use Rattle.std.specs.Prelude.{◌≡◌, ◌⊎◌, false, List, [], ◌∷◌, ◌++◌, ℕ, suc, ◌+◌, ◌*◌, ◌≤◌, ◌<◌, T, length, replicate, if◌then◌else◌}
use Rattle.words.specs.declared.Answer.{Answer}
use Rattle.words.specs.declared.Answer.TheVariants.{Put, Refused}
use Rattle.words.specs.declared.Refusal.TheVariants.{Worn, Busy, Empty}
use Rattle.book.specs.Sizes.{Size, fits, is_label, round_of}
use Rattle.book.specs.Steps.{Step, Desk, idle, looked, holding, is_fetched}
use Rattle.book.specs.Book.{Book, row_at, desk_at, put_turn, held_in, step, opened, answers, after, leaves}
use Rattle.book.specs.Counts.{waiting, times, times_held}
use Rattle.book.specs.Messages.{put, get, fetch, finish}

-- ---- the run that clears a line

-- desk d fetches what it has claimed, and finishes what it has fetched
abbrev pub settles : {A : Type 0} → ℕ → Desk A → List Step
settles d idle = []
settles d (looked x) = []
settles d (holding h) = if is_fetched h then finish d ∷ [] else fetch d ∷ finish d ∷ []

-- so each desk in turn, from desk d on
unfoldable pub settling : {A : Type 0} → ℕ → List (Desk A) → List Step
settling d [] = []
settling d (x ∷ xs) = settles d x ++ settling (suc d) xs

-- the owner gets as often as labels wait, and once more
unfoldable pub emptying : Book → List Step
emptying b = replicate (suc (waiting b)) get

unfoldable pub clearing : Book → List Step
clearing b = settling 0 b.desks ++ emptying b

-- ---- what the put of label a answers in book e

module _ (z : Size) (e : Book) (a : ℕ) where
  abbrev pub IsPlaced : Type 0
  IsPlaced = (step z e (put a)).answer ≡ Put a

  -- WORN, and turn P + 1 would have round 65,536
  abbrev pub IsWorn : Type 0
  IsWorn = ((step z e (put a)).answer ≡ Refused Worn 0) × (round_of z (put_turn z e.rows + 1) ≡ 65536)

  -- BUSY, and a desk holds a row of turn Q = P + 1 - NB, which is claimed or fetched and not finished
  abbrev pub IsBusy : Type 0
  IsBusy =
      ((step z e (put a)).answer ≡ Refused Busy 0)
      × ((q : ℕ) × (q + z.nb ≡ put_turn z e.rows + 1) × (d : ℕ) × T (held_in z q (desk_at e d)))

-- ---- the statements

pub record Clears (z : Size) (b : Book) : Type 0 where
  pub steps : length (clearing b) ≤ 2 * z.t + z.nb * z.ne + 1
  -- the last get is EMPTY, and nothing waits
  pub empty : (l : List Answer) × (answers z b (clearing b) ≡ l ++ (Refused Empty 0 ∷ []))
  pub none : waiting (after z b (clearing b)) ≡ 0
  -- each row that waited has left, once; and so has each that a desk had claimed and not fetched
  pub waited : (n : ℕ) → n < length b.rows → (row_at b.rows n).gone ≡ false → times n (leaves z b (clearing b)) ≡ 1
  pub unfetched : (n : ℕ) → times_held n b ≡ 1 → times n (leaves z b (clearing b)) ≡ 1
  -- the next label is placed, or the line is worn
  pub next : (a : ℕ) → T (is_label a) → IsPlaced z (after z b (clearing b)) a ⊎ IsWorn z (after z b (clearing b)) a

unfoldable pub NothingStuck : Type 0
NothingStuck = (z : Size) (ss : List Step) → T (fits z) → Clears z (after z (opened z) ss)

-- where the desks are silent, gets until EMPTY are enough, unless a desk still holds a row of the turn whose block is to be reused
unfoldable pub OnlyBusy : Type 0
OnlyBusy =
    (z : Size) (ss : List Step) (a : ℕ) → T (fits z) → T (is_label a)
    → let b = after z (opened z) ss in
    let e = after z b (emptying b) in
    IsPlaced z e a ⊎ IsWorn z e a ⊎ IsBusy z e a
