-- Order is kept: in every run from opening, for every size and every list of steps, labels come out in the order they went
-- in. proofs/ has a proof of each statement, under the same name in small letters.
use Rattle.std.specs.Prelude.{◌≡◌, not, ◌&&◌, List, [], ◌∷◌, ◌++◌, map, ℕ, ◌/◌, ◌<◌, filter, length, take, if◌then◌else◌}
use mathlib.Core.List.{Sublistᴰ as Sublist}
use Rattle.words.specs.declared.Answer.{Answer}
use Rattle.book.specs.Choice.{◌≡ᵇ◌}
use Rattle.book.specs.Sizes.{Size}
use Rattle.book.specs.Steps.{Step}
use Rattle.book.specs.Total.{up_from}
use Rattle.book.specs.Book.{Row, Book, row_at, step, opened, answers, after}
use Rattle.book.specs.Counts.{count, got, won, handed}

-- each is larger than the one before it
abbrev pub Increasing : List ℕ → Type 0
Increasing [] = Unit {0}
Increasing (n ∷ []) = Unit {0}
Increasing (n ∷ m ∷ l) = (n < m) × Increasing (m ∷ l)

-- the rows that go: waiting before, and gone after
unfoldable pub went_by : List Row → List Row → List ℕ
went_by before after = filter (λ n. not (row_at before n).gone && (row_at after n).gone) (up_from (length after) 0)

module _ (z : Size) where
  -- the rows that go in a run, whether got or claimed
  unfoldable pub went_rows : Book → List Step → List ℕ
  went_rows b [] = []
  went_rows b (s ∷ ss) = let c = (step z b s).book in went_by b.rows c.rows ++ went_rows c ss

  -- the rows that gets hand over, get being code 1
  unfoldable pub got_rows : Book → List Step → List ℕ
  got_rows b [] = []
  got_rows b (s ∷ ss) = let o = step z b s in (if s.code ≡ᵇ 1 then o.left else []) ++ got_rows o.book ss

-- the same of labels: what gets hand over, and what is placed, by the steps of a run and its answers
unfoldable pub got_labels : List Step → List Answer → List ℕ
got_labels [] l = []
got_labels (s ∷ ss) [] = []
got_labels (s ∷ ss) (a ∷ l) = (if s.code ≡ᵇ 1 then (count a).labels else []) ++ got_labels ss l

-- put A places A, and an order A, A + 1, and so on, as many as the answer counts
unfoldable pub placed_labels : List Step → List Answer → List ℕ
placed_labels [] l = []
placed_labels (s ∷ ss) [] = []
placed_labels (s ∷ ss) (a ∷ l) = up_from (count a).placed s.a ++ placed_labels ss l

-- the rows that gets hand over are in the order placed
unfoldable pub GetsInOrder : Type 0
GetsInOrder = (z : Size) (ss : List Step) → Increasing (got_rows z (opened z) ss)

-- within one turn the rows go in order of place
unfoldable pub GoesInOrder : Type 0
GoesInOrder = (z : Size) (ss : List Step) (t : ℕ) → Increasing (filter (λ n. n / z.ne ≡ᵇ t) (went_rows z (opened z) ss))

-- where no claim is won, the labels that come out are the first that went in, in order
unfoldable pub FirstInFirstOut : Type 0
FirstInFirstOut =
    (z : Size) (ss : List Step)
    → let l = answers z (opened z) ss in
    won l ≡ 0 → handed l ≡ take (got l) (placed_labels ss l)

-- whatever is claimed, the labels that gets hand over are labels that went in, in order, with others left out
unfoldable pub GotInOrder : Type 0
GotInOrder = (z : Size) (ss : List Step) → let l = answers z (opened z) ss in Sublist (got_labels ss l) (placed_labels ss l)

-- and the labels that went in are the rows of the book
unfoldable pub PlacedInOrder : Type 0
PlacedInOrder = (z : Size) (ss : List Step) → placed_labels ss (answers z (opened z) ss) ≡ map (λ r. r.label) (after z (opened z) ss).rows
