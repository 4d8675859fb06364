-- What holds of every run of the book from opening, for every size and every list of steps: any codes, any numbers.
-- proofs/ has a proof of each, under the same name in small letters.
use Rattle.std.specs.Prelude.{◌≡◌, ◌≢◌, not, List, map, ℕ, ◌+◌, ◌-◌, ◌≤◌, ◌<◌, T, length, if◌then◌else◌}
use Rattle.book.specs.Sizes.{Size, block_of, is_used, current_turn}
use Rattle.book.specs.Steps.{Step, get, decode, Hold, holding}
use Rattle.book.specs.Book.{row_at, desk_at, step, opened, answers, after, leaves}
use Rattle.book.specs.Counts.{placed, got, took, won, lost, unfetched, times_held, waiting, handed, times, times_unfetched, times_waiting, bound}
use Rattle.book.specs.Order.{placed_labels}

-- labels placed = got + fetched + claimed but unfetched + waiting
unfoldable pub Counting : Type 0
Counting =
    (z : Size) (ss : List Step)
    → let l = answers z (opened z) ss in
    let b = after z (opened z) ss in
    placed l ≡ got l + took l + unfetched b + waiting b

-- and the labels placed are the rows of the book
unfoldable pub Placed : Type 0
Placed = (z : Size) (ss : List Step) → length (after z (opened z) ss).rows ≡ placed (answers z (opened z) ss)

-- a row that is gone has left, once, or one desk has claimed it and not fetched; a row that waits, or is not placed, neither
unfoldable pub RowsKept : Type 0
RowsKept =
    (z : Size) (ss : List Step) (n : ℕ)
    → let b = after z (opened z) ss in
    times n (leaves z (opened z) ss) + times_held n b ≡ (if (row_at b.rows n).gone then 1 else 0)

-- what leaves is a row of the book, and so is what a desk has claimed or fetched and not finished
unfoldable pub RowsOfBook : Type 0
RowsOfBook =
    (z : Size) (ss : List Step)
    → let b = after z (opened z) ss in
    ((n : ℕ) → 0 < times n (leaves z (opened z) ss) → n < length b.rows)
    × ((d : ℕ) (h : Hold ℕ) → desk_at b d ≡ holding h → h.at < length b.rows)

-- so no row's label leaves twice
unfoldable pub NeverTwice : Type 0
NeverTwice = (z : Size) (ss : List Step) (n : ℕ) → times n (leaves z (opened z) ss) ≤ 1

-- and the labels that the answers hand over are those of the rows that leave, in order
unfoldable pub Handed : Type 0
Handed =
    (z : Size) (ss : List Step)
    → handed (answers z (opened z) ss) ≡ map (λ n. (row_at (after z (opened z) ss).rows n).label) (leaves z (opened z) ss)

-- the labels got and fetched, claimed but unfetched, and waiting are the labels placed: each label as often
unfoldable pub LabelsKept : Type 0
LabelsKept =
    (z : Size) (ss : List Step) (a : ℕ)
    → let l = answers z (opened z) ss in
    let b = after z (opened z) ss in
    times a (handed l) + times_unfetched a b + times_waiting a b ≡ times a (placed_labels ss l)

-- demand 3
unfoldable pub Bounded : Type 0
Bounded = (z : Size) (ss : List Step) → let l = answers z (opened z) ss in lost l ≤ bound z (won l) (placed l)

-- ---- turns

-- one get moves at most NB - 1 blocks
unfoldable pub GetMoves : Type 0
GetMoves =
    (z : Size) (ss : List Step) (s : Step) → decode s ≡ get
    → let b = after z (opened z) ss in
    let k = (step z b s).book.k in
    (b.k ≤ k) × (k - b.k ≤ z.nb - 1)

-- turn t is the largest turn up to P that stands in block i
pub record IsLargest (z : Size) (p i t : ℕ) : Type 0 where
  pub stands : block_of z t ≡ i
  pub low : t ≤ p
  pub largest : (u : ℕ) → u ≤ p → block_of z u ≡ i → u ≤ t

-- a block's current turn is that; a block with none is unused
unfoldable pub CurrentTurn : Type 0
CurrentTurn =
    (z : Size) (p i : ℕ) → i < z.nb
    → (T (is_used z p i) → IsLargest z p i (current_turn z p i))
    × (T (not (is_used z p i)) → (t : ℕ) → t ≤ p → block_of z t ≢ i)
