-- When a line and a book agree: the line is sound, and the book says the same of turns, places and labels.
use Rattle.std.specs.Prelude.{◌≡◌, map, ℕ, ◌+◌, ◌*◌, ◌≤◌, ◌<◌, T, length, take, if◌then◌else◌}
use Rattle.book.specs.Choice.{◌<ᵇ◌, ◌≤ᵇ◌, ◌≡ᵇ◌}
use Rattle.book.specs.Sizes.{Size}
use Rattle.book.specs.Steps.{Desk, idle, looked, holding}
use Rattle.book.specs.Book.{Book, row_at, row_of}
use Rattle.line.specs.Line.{Line, Spot, desk_of, desk_at, size_of, record_of, label_at}
use Rattle.line.specs.Rules.{Sound}
use Rattle.line.specs.Check.{fit}

module _ (z : Size) where
  -- a desk's turn and place as a row
  abbrev pub as_row : Desk Spot → Desk ℕ
  as_row idle = idle
  as_row (looked s) = looked (row_of z s.turn s.place)
  as_row (holding h) = holding (record { at = row_of z h.at.turn h.at.place; fetched = h.fetched })

  -- how many rows of turn t are gone, always its first ones
  unfoldable pub front : Line → ℕ → ℕ
  front l t =
      if t <ᵇ l.head.k then z.ne
      else if t ≡ᵇ l.head.k then l.head.reading
      else if t ≤ᵇ l.head.p then (record_of z l.table t).claimed
      else 0

  -- a sound line of this size; a head holds sixteen desks, which as a list could be any number
  pub record Lawful (l : Line) : Type 0 where
    pub size : size_of l.head ≡ z
    pub fits : T (fit z l.table l.entries)
    pub many : length l.head.desks ≡ 16
    pub sound : Sound l

  pub record Agrees (l : Line) (b : Book) : Type 0 where
    pub lawful : Lawful l
    pub turn : b.k ≡ l.head.k
    pub desks : b.desks ≡ map (λ x. as_row (desk_of x)) (take z.t l.head.desks)
    pub rows : length b.rows ≡ l.head.p * z.ne + (record_of z l.table l.head.p).written
    pub labels : (s : Spot) → s.turn ≤ l.head.p → l.head.p < s.turn + z.nb → s.place < (record_of z l.table s.turn).written
        → label_at z l.entries s ≡ (row_at b.rows (row_of z s.turn s.place)).label
    pub marks : (t q : ℕ) → q < z.ne → (row_at b.rows (row_of z t q)).gone ≡ (q <ᵇ front l t)
    pub looks : (d : ℕ) (s : Spot) → desk_at l.head d ≡ looked s → l.head.k < s.turn → s.place ≤ (record_of z l.table s.turn).claimed
