-- The numbers within their limits, and the lent lengths: n records of the table's 64, and the entries.
use Rattle.std.proofs.Common.{◌≡◌, ℕ, ◌*◌, ◌≤◌, Bool, true, ◌&&◌, T, eqb, List, length, arith, eqb→eq}
use Rattle.book.specs.Sizes.{Size, fits}
use Rattle.book.proofs.Choice.{and_first, and_second}
use Rattle.line.specs.declared.Block.{Block}
use Rattle.line.specs.Check.{fit}
use Rattle.line.proofs.Cells.{Valid, valid}
use Rattle.byvalue.specs.Lent.{lent_table}
use Rattle.line.specs.Tests.{fitting}
use Rattle.byvalue.proofs.Lent.{lent_length}

pub fit_by : (z : Size) (t : List Block) (n : ℕ) (es : List ℕ) → length t ≡ 64 → fit z (lent_table t n) es ≡ fitting z n (length es)
unfolding fit
fit_by z t n es h = rw (lent_length t n h)

pub record Sized (z : Size) (n m : ℕ) : Type 0 where
  pub limits : Valid z
  pub blocks : n ≡ z.nb
  pub entries : m ≡ z.nb * z.ne

module _ (z : Size) (n m : ℕ) (b : Bool) (test : b ≡ fitting z n m) (passed : b ≡ true) where
  pub sized : Sized z n m
  sized =
      let f = fits z in let k = eqb n z.nb in let e = eqb m (z.nb * z.ne) in
      let all : T (f && k && e) = rw (← test, passed) tt in
      record {
        limits = valid z (and_first f k (and_first (f && k) e all));
        blocks = eqb→eq n z.nb (and_second f k (and_first (f && k) e all));
        entries = eqb→eq m (z.nb * z.ne) (and_second (f && k) e all);
      }

  pub sized_few : n ≤ 64
  sized_few = omega (arith, sized.blocks, sized.limits.nb_most)
