-- What a sound line, lent with its NB records, says of the numbers that a step computes with.
use Rattle.std.proofs.Common.{◌≡◌, ℕ, ◌*◌, ◌%◌, ◌<◌, ◌≤◌, List, get_or, sym, mod-lt, arith}
use Rattle.book.specs.Sizes.{Size}
use Rattle.line.specs.declared.Block.{Block}
use Rattle.line.specs.declared.Head.{Head}
use Rattle.line.specs.Line.{Line, unused, size_of, record_of, entry_of}
use Rattle.line.proofs.Current.{entry_lt}
use Rattle.line.proofs.Cells.{Valid, valid_of, entries_of}
use Rattle.byvalue.specs.Lent.{line_of}
use Rattle.byvalue.specs.Ready.{Ready}
use Rattle.byvalue.specs.Entries.{Stands}
use Rattle.byvalue.proofs.Lent.{lent_at}

module _ (h : Head) (t : List Block) (es : List ℕ) (r : Ready h t es) where
  abbrev z : Size
  z = size_of h

  abbrev l : Line
  l = line_of h t h.nb es

  pub sizes : Valid z
  sizes = valid_of z l r

  pub blocks : (1 ≤ h.nb) × (h.nb ≤ 64)
  blocks = let v = sizes in (omega arith, v.nb_most)

  pub turns : h.p < 65536 * 64
  turns = let v = sizes in omega (arith, r.sound.one.rounds)

  -- block i, in which turn u stands
  module _ (u i : ℕ) (e : i ≡ u % h.nb) where
    pub block_below : (i < h.nb) × (h.nb ≤ 64)
    block_below = (rw e (mod-lt u blocks.0), blocks.1)

    pub record_at_lem : get_or t i unused ≡ record_of z l.table u
    unfolding record_of
    record_at_lem = rw (← e) (sym (lent_at h.nb blocks.1 t i unused block_below.0))

    pub stands : (q : ℕ) → q < h.ne → Stands h.ne i q es
    unfolding entry_of
    stands q below =
        let v = sizes in
        let b = block_below in
        record {
          entries_few = v.ne_most;
          block_few = omega arith;
          below = below;
          within = rw e (omega (arith, entry_lt z u q blocks.0 below, entries_of z l r));
        }
