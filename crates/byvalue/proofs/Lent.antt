-- Laws of the lent table: the first n of the 64 records are the line's.
use Rattle.std.proofs.Common.{◌≡◌, ℕ, ◌<◌, ◌≤◌, leb, List, length, get_or, take, set, arith, leb→le, length-take-le, get_or-take, le-leb}
use Rattle.std.proofs.Math.ListN.{length-replicate}
use Rattle.std.proofs.Math.Seq.{take-set-lt}
use Rattle.book.proofs.Choice.{by_test}
use Rattle.line.specs.declared.Block.{Block}
use Rattle.line.specs.Line.{unused}
use Rattle.byvalue.specs.Lent.{lent_table}

module _ (n : ℕ) (few : n ≤ 64) where
  pub lent_take : (t : List Block) → lent_table t n ≡ take n t
  unfolding lent_table
  lent_take t = rw (le-leb n 64 few)

  pub lent_at : (t : List Block) (i : ℕ) (d : Block) → i < n → get_or (lent_table t n) i d ≡ get_or t i d
  lent_at t i d h = rw (lent_take t) (get_or-take n t i d h)

  pub lent_set : (t : List Block) (i : ℕ) (c : Block) → i < n → lent_table (set t i c) n ≡ set (lent_table t n) i c
  lent_set t i c h = rw (lent_take t, lent_take (set t i c)) (take-set-lt n t i c h)

-- however many records were lent, also where they fit no line
pub lent_length : (t : List Block) (n : ℕ) → length t ≡ 64 → length (lent_table t n) ≡ n
unfolding lent_table
lent_length t n h = by_test (λ (l : List Block). length l ≡ n) (leb n 64) (λ s. let k = leb→le n 64 s in length-take-le n t (omega arith)) (λ s. length-replicate n unused)
