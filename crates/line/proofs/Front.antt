-- The front of a turn is how many of its rows are gone, always its first ones: NE below K, the reading place at K, above
-- K claimed. Here are its laws: what it is by where the turn stands, what a change of the line leaves of it, and how a
-- mark in the book moves it. With it P, written, first and waits of the book are read off the line's records.
-- What a line and a book that agree say of one another, but for soundness, is `Matches`; `Follows` is a step of both.
use Rattle.std.proofs.Common.{◌≡◌, ℕ, suc, ◌+◌, ◌-◌, ◌*◌, ◌<◌, ◌≤◌, eqb, ltb, leb, ◌≢◌, List, map, length, take, sym, refl, ap, ◌∙◌, subst, le_refl, mul-le-mul_right, arith, eqb→eq, ltb→lt, lt→ltb, leb→le, lt-ltb, le-ltb, le-leb, ne_eqb}
use Rattle.std.proofs.lemmas.Bool.{lt-leb}
use Rattle.std.proofs.Math.Arith.{digits_div}
use Rattle.std.proofs.Math.Dec.{nleb→lt}
use Rattle.words.specs.declared.Answer.{Answer}
use Rattle.book.specs.Sizes.{Size}
use Rattle.book.specs.Steps.{looked}
use Rattle.book.specs.Book.{Row, Book, row_at, row_of, rows_of, mark_gone, put_turn, written, first, waits}
use Rattle.book.specs.Book as B
use Rattle.book.proofs.Choice.{cases, same_test, by_order, neq_test, eqb_same}
use Rattle.book.proofs.Rows.{gone_before_prefix, written_is, row_place, mark_same, mark_other}
use Rattle.book.proofs.Turns.{row_inj}
use Rattle.line.specs.Line.{Line, Spot, desk_of, desk_at, size_of, record_of, label_at, size_in, here}
use Rattle.line.specs.Line as L
use Rattle.line.specs.Agrees.{as_row, front, Lawful, Agrees}
use Rattle.line.proofs.Current.{Window}
use Rattle.line.proofs.Cells.{Valid, valid_of, Cell, cell}

module _ (z : Size) where
  -- ---- a line and a book that agree, but for soundness, and a step of both

  pub record Matches (l : Line) (b : Book) : Type 0 where
    pub turn : b.k ≡ l.head.k
    pub desks : b.desks ≡ map (λ x. as_row z (desk_of x)) (take z.t l.head.desks)
    pub rows : length b.rows ≡ l.head.p * z.ne + (record_of z l.table l.head.p).written
    pub labels : (s : Spot) → s.turn ≤ l.head.p → l.head.p < s.turn + z.nb → s.place < (record_of z l.table s.turn).written
        → label_at z l.entries s ≡ (row_at b.rows (row_of z s.turn s.place)).label
    pub marks : (t q : ℕ) → q < z.ne → (row_at b.rows (row_of z t q)).gone ≡ ltb q (front z l t)
    pub looks : (d : ℕ) (s : Spot) → desk_at l.head d ≡ looked s → l.head.k < s.turn → s.place ≤ (record_of z l.table s.turn).claimed

  pub record Follows (o : L.Outcome) (q : B.Outcome) : Type 0 where
    pub same : o.answer ≡ q.answer
    pub matches : Matches o.line q.book

  module _ (l : Line) (b : Book) where
    pub matches_of : Agrees z l b → Matches l b
    matches_of g = record { turn = g.turn; desks = g.desks; rows = g.rows; labels = g.labels; marks = g.marks; looks = g.looks }

    pub agrees_of : Lawful z l → Matches l b → Agrees z l b
    agrees_of w m = record { lawful = w; turn = m.turn; desks = m.desks; rows = m.rows; labels = m.labels; marks = m.marks; looks = m.looks }

    -- an answer that changes nothing
    pub stays : Agrees z l b → (a : Answer) → Follows (L.says l a) (B.says b a)
    stays g a = record { same = refl; matches = matches_of g }

    -- the size is the line's own, so what is shown for that size is shown
    pub at_size : (P : Size → Type 0) → (Agrees (size_of l.head) l b → P (size_of l.head)) → Agrees z l b → P z
    at_size P f g = subst (λ (y : Size). Agrees y l b → P y) g.lawful.size f g

  -- ---- the front, by where the turn stands

  module _ (l : Line) (t : ℕ) where
    pub front_below : t < l.head.k → front z l t ≡ z.ne
    unfolding front
    front_below h = rw (lt-ltb t l.head.k h)

    pub front_here : t ≡ l.head.k → front z l t ≡ l.head.reading
    unfolding front
    front_here e = rw (e, le-ltb l.head.k l.head.k (le_refl l.head.k), eqb_same l.head.k)

    pub front_above : l.head.k < t → t ≤ l.head.p → front z l t ≡ (record_of z l.table t).claimed
    unfolding front
    front_above h n = rw (le-ltb t l.head.k (omega arith), ne_eqb t l.head.k (λ e. omega arith), le-leb t l.head.p n)

    pub front_past : l.head.k < t → l.head.p < t → front z l t ≡ 0
    unfolding front
    front_past h n = rw (le-ltb t l.head.k (omega arith), ne_eqb t l.head.k (λ e. omega arith), lt-leb t l.head.p n)

    -- so a number is the front if it is in each of the four cases
    pub front_is : (n : ℕ) → (t < l.head.k → z.ne ≡ n) → (t ≡ l.head.k → l.head.reading ≡ n)
        → (l.head.k < t → t ≤ l.head.p → (record_of z l.table t).claimed ≡ n) → (l.head.k < t → l.head.p < t → 0 ≡ n)
        → front z l t ≡ n
    front_is n below here above past =
        by_order t l.head.k
        (λ s. front_below s ∙ below s)
        (λ s. front_here s ∙ here s)
        (λ s. cases (leb t l.head.p)
        (λ r. let i = leb→le t l.head.p r in front_above s i ∙ above s i)
        (λ r. let i = nleb→lt t l.head.p r in front_past s i ∙ past s i))

  -- ---- what moves it

  -- nothing does that leaves K, the reading place, P, and claimed above K
  pub front_same : (l m : Line) (t : ℕ) → m.head.k ≡ l.head.k → m.head.reading ≡ l.head.reading → m.head.p ≡ l.head.p
      → (l.head.k < t → t ≤ l.head.p → (record_of z m.table t).claimed ≡ (record_of z l.table t).claimed) → front z m t ≡ front z l t
  front_same l m t ek er ep h =
      front_is m t (front z l t)
      (λ s. sym (front_below l t (rw ek at s)))
      (λ s. er ∙ sym (front_here l t (s ∙ ek)))
      (λ s i. h (rw ek at s) (rw ep at i) ∙ sym (front_above l t (rw ek at s) (rw ep at i)))
      (λ s i. sym (front_past l t (rw ek at s) (rw ep at i)))

  -- the first waiting row of a turn is marked: the front of that turn grows by one, and no other does
  pub mark_front : (rs : List Row) (f f' : ℕ → ℕ) (t p : ℕ) → p < z.ne → row_of z t p < length rs
      → f t ≡ p → f' t ≡ suc p → ((u : ℕ) → u ≢ t → f' u ≡ f u)
      → ((u q : ℕ) → q < z.ne → (row_at rs (row_of z u q)).gone ≡ ltb q (f u))
      → (u q : ℕ) → q < z.ne → (row_at (mark_gone rs (row_of z t p)) (row_of z u q)).gone ≡ ltb q (f' u)
  mark_front rs f f' t p fits on old new other marks u q h =
      cases (eqb u t)
      (λ s. rw (eqb→eq u t s, new) (cases (eqb q p)
      (λ r. rw (eqb→eq q p r, mark_same rs (row_of z t p) on) (sym (lt-ltb p (suc p) (omega arith))))
      (λ r. let n = neq_test q p r in
      rw (mark_other rs (row_of z t p) (row_of z t q) (λ x. n (row_inj z t q t p h fits x).1), marks t q h, old)
      (same_test (ltb q p) (ltb q (suc p))
      (λ x. lt→ltb q (suc p) (omega (arith, ltb→lt q p x)))
      (λ x. lt→ltb q p (omega (arith, ltb→lt q (suc p) x)))))))
      (λ s. let n = neq_test u t s in
      rw (mark_other rs (row_of z t p) (row_of z u q) (λ x. n (row_inj z u q t p h fits x).0), other u n) (marks u q h))

-- ---- a line and a book that agree, turn by turn

module _ (l : Line) (b : Book) (g : Agrees (size_of l.head) l b) where
  abbrev p : ℕ
  p = l.head.p

  pub sizes : Valid (size_in l)
  sizes = valid_of (size_in l) l g.lawful

  pub pos : 0 < l.head.nb
  pos = omega (arith, sizes.nb)

  -- the turns from K to P are current
  pub below : l.head.k ≤ p
  below = g.lawful.sound.one.below

  pub near : (t : ℕ) → l.head.k ≤ t → t ≤ p → Window (size_in l) p t
  near t h i = record { low = i; high = omega (arith, below, g.lawful.sound.one.near, pos) }

  pub put_window : Window (size_in l) p p
  put_window = near p below (le_refl p)

  pub current : (t : ℕ) → Window (size_in l) p t → Cell l t
  current t w = cell l pos g.lawful.sound t w

  -- P, and written of each turn
  pub put_turn_lem : put_turn (size_in l) b.rows ≡ p
  unfolding put_turn
  put_turn_lem =
      let c = current p put_window in
      let e : length b.rows - 1 ≡ p * l.head.ne + ((here l p).written - 1) =
      cases (eqb p 0)
      (λ s. omega (arith, g.rows, ap (λ (n : ℕ). n * l.head.ne) (eqb→eq p 0 s)))
      (λ s. omega (arith, g.rows, c.some refl (neq_test p 0 s))) in
      rw e (digits_div p (omega (arith, c.fits, sizes.ne)))

  pub written_full : (t : ℕ) → t < p → written (size_in l) b.rows t ≡ l.head.ne
  written_full t h = rw (written_is (size_in l) b.rows t) (omega (arith, g.rows, mul-le-mul_right l.head.ne h))

  pub written_same : (t : ℕ) → Window (size_in l) p t → written (size_in l) b.rows t ≡ (here l t).written
  written_same t w =
      by_order t p
      (λ s. written_full t s ∙ sym ((current t w).full s))
      (λ s. rw (s, written_is (size_in l) b.rows p) (omega (arith, g.rows, (current p put_window).fits)))
      (λ s. absurd (omega (arith, w.low)))

  -- the first row that waits stands at the front
  pub front_le : (t : ℕ) → t ≤ p → front (size_in l) l t ≤ written (size_in l) b.rows t
  front_le t h =
      by_order t l.head.k
      (λ s. rw (front_below (size_in l) l t s, written_full t (omega (arith, below))) (le_refl l.head.ne))
      (λ s. rw (front_here (size_in l) l t s, written_same t (near t (omega arith) h), s) g.lawful.sound.two.to)
      (λ s. let w = near t (omega arith) h in rw (front_above (size_in l) l t s h, written_same t w) (current t w).claims)

  pub first_front : (t : ℕ) → t ≤ p → first (size_in l) b.rows t ≡ front (size_in l) l t
  unfolding first written
  first_front t h =
      gone_before_prefix (rows_of (size_in l) b.rows t) (front (size_in l) l t)
      (λ q i. let j : q < l.head.ne = omega (arith, written_is (size_in l) b.rows t) in rw (row_place (size_in l) b.rows t q j) (g.marks t q j)) (front_le t h)

  pub first_above : (t : ℕ) → l.head.k < t → t ≤ p → first (size_in l) b.rows t ≡ (here l t).claimed
  first_above t h i = first_front t i ∙ front_above (size_in l) l t h i

  -- and one waits exactly where the front is below written
  pub waits_same : (t : ℕ) → Window (size_in l) p t → ltb (first (size_in l) b.rows t) (here l t).written ≡ waits (size_in l) b.rows t
  unfolding waits
  waits_same t w = rw (written_same t w)
