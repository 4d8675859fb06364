-- A sound line, turn by turn: what rules 4 to 7 say of the record of each turn of the window, in place of each block.
use Rattle.std.proofs.Common.{◌≡◌, ℕ, ◌+◌, ◌*◌, ◌<◌, ◌≤◌, ◌&&◌, T, eqb, leb, ◌≢◌, List, length, get_or, refl, ap, ◌∙◌, mod-lt, mod-eq_of_lt, arith, eqb→eq, leb→le}
use Rattle.std.proofs.Math.Nat.{mod-le}
use Rattle.book.specs.Total.{total}
use Rattle.book.specs.Sizes.{Size, fits, within, block_of, round_of, current_turn}
use Rattle.book.proofs.Choice.{and_first, and_second}
use Rattle.book.proofs.Turns.{current_low, current_high, current_block}
use Rattle.line.specs.Line.{Line, LentDesk, Block, unused, desk_of, record_of, size_in, here}
use Rattle.line.specs.Rules.{held_in, Rule4, Rule5, Rule6, Rule7, Sound}
use Rattle.line.specs.Check.{fit}
use Rattle.line.specs.Agrees.{Lawful}
use Rattle.line.proofs.Current.{Window, window→current}

-- ---- the numbers that fit

pub record Valid (z : Size) : Type 0 where
  pub nb : 2 ≤ z.nb
  pub nb_most : z.nb ≤ 64
  pub ne : 1 ≤ z.ne
  pub ne_most : z.ne ≤ 64
  pub t : 1 ≤ z.t
  pub t_most : z.t ≤ 16

within_low : (a b n : ℕ) → T (within a b n) → a ≤ n
within_low a b n h = leb→le a n (and_first (leb a n) (leb n b) h)

within_high : (a b n : ℕ) → T (within a b n) → n ≤ b
within_high a b n h = leb→le n b (and_second (leb a n) (leb n b) h)

pub valid : (z : Size) → T (fits z) → Valid z
unfolding fits
valid z f =
    let n = within 2 64 z.nb in let e = within 1 64 z.ne in let d = within 1 16 z.t in
    let fn : T n = and_first n e (and_first (n && e) d f) in
    let fe : T e = and_second n e (and_first (n && e) d f) in
    let fd : T d = and_second (n && e) d f in
    record {
      nb = within_low 2 64 z.nb fn;
      nb_most = within_high 2 64 z.nb fn;
      ne = within_low 1 64 z.ne fe;
      ne_most = within_high 1 64 z.ne fe;
      t = within_low 1 16 z.t fd;
      t_most = within_high 1 16 z.t fd;
    }

pub valid_of : (z : Size) (l : Line) → Lawful z l → Valid z
unfolding fit
valid_of z l w =
    let a = fits z in let b = eqb (length l.table) z.nb in let c = eqb (length l.entries) (z.nb * z.ne) in
    valid z (and_first a b (and_first (a && b) c w.fits))

pub blocks_of : (z : Size) (l : Line) → Lawful z l → length l.table ≡ z.nb
unfolding fit
blocks_of z l w =
    let a = fits z in let b = eqb (length l.table) z.nb in let c = eqb (length l.entries) (z.nb * z.ne) in
    eqb→eq (length l.table) z.nb (and_second a b (and_first (a && b) c w.fits))

pub entries_of : (z : Size) (l : Line) → Lawful z l → length l.entries ≡ z.nb * z.ne
unfolding fit
entries_of z l w =
    let a = fits z in let b = eqb (length l.table) z.nb in let c = eqb (length l.entries) (z.nb * z.ne) in
    eqb→eq (length l.entries) (z.nb * z.ne) (and_second (a && b) c w.fits)

-- ---- a turn of the window

-- how many desks have claimed or fetched in turn t
abbrev pub held : List LentDesk → ℕ → ℕ
held ds t = total (λ x. held_in t (desk_of x)) ds

-- record c stands for turn t, where P is p and the desks are ds
pub record Stands (z : Size) (p : ℕ) (ds : List LentDesk) (t : ℕ) (c : Block) : Type 0 where
  pub round : c.round ≡ round_of z t
  pub fits : c.written ≤ z.ne
  pub full : t < p → c.written ≡ z.ne
  pub some : t ≡ p → p ≢ 0 → 1 ≤ c.written
  pub claims : c.claimed ≤ c.written
  pub zeroth : t ≡ 0 → c.claimed ≡ 0
  pub holders : c.claimed ≡ c.finished + held ds t

module _ (l : Line) where
  abbrev pub Cell : ℕ → Type 0
  Cell t = Stands (size_in l) l.head.p l.head.desks t (here l t)

  pub cell : 0 < l.head.nb → Sound l → (t : ℕ) → Window (size_in l) l.head.p t → Cell t
  unfolding record_of
  cell pos s t w =
      let i = block_of (size_in l) t in
      let e : current_turn (size_in l) l.head.p i ≡ t = window→current (size_in l) l.head.p t pos w in
      let h : i < l.head.nb = mod-lt t pos in
      let u : i ≤ l.head.p = omega (arith, mod-le t l.head.nb, w.low) in
      record {
        round = (s.four i h).round u ∙ ap (round_of (size_in l)) e;
        fits = (s.five i h).fits u;
        full = λ b. (s.five i h).full u (rw e b);
        some = λ b. (s.five i h).some u (e ∙ b);
        claims = (s.six i h).fits u;
        zeroth = λ b. (s.six i h).zeroth u (e ∙ b);
        holders = rw e at ((s.seven i h).holders u);
      }

  pub blank : Sound l → (u : ℕ) → l.head.p < u → u < l.head.nb → here l u ≡ unused
  unfolding record_of
  blank s u h k = rw (mod-eq_of_lt {n = u} {m = l.head.nb} k) ((s.four u k).zeros h)

  -- and back, block by block
  module _ (pos : 0 < l.head.nb) (cells : (t : ℕ) → Window (size_in l) l.head.p t → Cell t) (blanks : (u : ℕ) → l.head.p < u → u < l.head.nb → here l u ≡ unused) (i : ℕ) (h : i < l.head.nb) where
    abbrev t : ℕ
    t = current_turn (size_in l) l.head.p i

    of_block : i ≤ l.head.p → Cell t
    of_block u = cells t (record { low = current_low (size_in l) l.head.p i; high = current_high (size_in l) l.head.p i pos u })

    at_block : i ≤ l.head.p → here l t ≡ get_or l.table i unused
    unfolding record_of
    at_block u = rw (current_block (size_in l) l.head.p i h u) refl

    pub rule4 : Rule4 l i
    unfolding record_of
    rule4 = record {
      round = λ u. rw (← at_block u) (of_block u).round;
      zeros = λ u. rw (mod-eq_of_lt {n = i} {m = l.head.nb} h) at (blanks i u h);
    }

    pub rule5 : Rule5 l i
    rule5 = record {
      fits = λ u. rw (← at_block u) (of_block u).fits;
      full = λ u b. rw (← at_block u) ((of_block u).full b);
      some = λ u b. rw (← at_block u) ((of_block u).some b);
    }

    pub rule6 : Rule6 l i
    rule6 = record { fits = λ u. rw (← at_block u) (of_block u).claims; zeroth = λ u b. rw (← at_block u) ((of_block u).zeroth b) }

    pub rule7 : Rule7 l i
    rule7 = record { holders = λ u. rw (← at_block u) (of_block u).holders }
