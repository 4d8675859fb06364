-- A sound line, told turn by turn: by its lengths, by rules 1, 2 and 3, by what rules 4 to 7 ask of the record of each turn of
-- the window (`Stands`), and by zeros in the unused blocks. A lawful line is told so (`told`), and a line that is told so is
-- lawful (`lawful`): a proof about a step gives these parts of the new line from those of the old one.
-- All is over the line's own size, which every step leaves.
use Rattle.std.proofs.Common.{◌≡◌, ℕ, ◌*◌, ◌<◌, ◌≤◌, ◌&&◌, T, eqb, leb, length, refl, arith, le→leb}
use Rattle.book.specs.Sizes.{Size, fits, within}
use Rattle.book.proofs.Choice.{and_in, eq→eqb}
use Rattle.line.specs.Line.{Line, unused, size_of, size_in, here}
use Rattle.line.specs.Rules.{Rule1, Rule2, Rule3}
use Rattle.line.specs.Check.{fit}
use Rattle.line.specs.Agrees.{Lawful}
use Rattle.line.proofs.Current.{Window}
use Rattle.line.proofs.Cells.{Valid, valid_of, blocks_of, entries_of, Cell, cell, blank, rule4, rule5, rule6, rule7}

module _ (l : Line) where
  -- t is a turn of the window
  abbrev pub In : ℕ → Type 0
  In t = Window (size_in l) l.head.p t

  pub record ByTurns : Type 0 where
    pub valid : Valid (size_in l)
    pub blocks : length l.table ≡ l.head.nb
    pub room : length l.entries ≡ l.head.nb * l.head.ne
    pub many : length l.head.desks ≡ 16
    pub one : Rule1 l
    pub two : Rule2 l
    pub three : Rule3 l
    pub turns : (t : ℕ) → In t → Cell l t
    pub blanks : (u : ℕ) → l.head.p < u → u < l.head.nb → here l u ≡ unused

  -- ---- from a lawful line

  pub told : Lawful (size_in l) l → ByTurns
  told w = let v = valid_of (size_in l) l w in record {
    valid = v;
    blocks = blocks_of (size_in l) l w;
    room = entries_of (size_in l) l w;
    many = w.many;
    one = w.sound.one;
    two = w.sound.two;
    three = w.sound.three;
    turns = cell l (omega arith) w.sound;
    blanks = blank l w.sound;
  }

-- ---- and back

within_both : (a b n : ℕ) → a ≤ n → n ≤ b → T (within a b n)
within_both a b n h k = and_in (leb a n) (leb n b) (le→leb a n h) (le→leb n b k)

valid_fits : (z : Size) → Valid z → T (fits z)
unfolding fits
valid_fits z v =
    let n = within 2 64 z.nb in let e = within 1 64 z.ne in let d = within 1 16 z.t in
    let fn : T n = within_both 2 64 z.nb v.nb v.nb_most in
    let fe : T e = within_both 1 64 z.ne v.ne v.ne_most in
    let fd : T d = within_both 1 16 z.t v.t v.t_most in
    and_in (n && e) d (and_in n e fn fe) fd

module _ (l : Line) (g : ByTurns l) where
  abbrev z' : Size
  z' = size_of l.head

  pub some_block : 0 < z'.nb
  some_block = omega arith

  lengths : T (fit z' l.table l.entries)
  unfolding fit
  lengths =
      let a = fits z' in let b = eqb (length l.table) z'.nb in let c = eqb (length l.entries) (z'.nb * z'.ne) in
      let fb : T b = eq→eqb (length l.table) z'.nb g.blocks in
      let fc : T c = eq→eqb (length l.entries) (z'.nb * z'.ne) g.room in
      and_in (a && b) c (and_in a b (valid_fits z' g.valid) fb) fc

  pub lawful : Lawful z' l
  lawful = record {
    size = refl;
    fits = lengths;
    many = g.many;
    sound = record {
      one = g.one;
      two = g.two;
      three = g.three;
      four = rule4 l some_block g.turns g.blanks;
      five = rule5 l some_block g.turns g.blanks;
      six = rule6 l some_block g.turns g.blanks;
      seven = rule7 l some_block g.turns g.blanks;
    };
  }
