-- The block that a desk's step reads: a look's own, or that of the desk's turn. Where a look's block is used, it is
-- that of the turn that `turn_read` says; an unused block has no turn, and no look at it is SEEN.
use Rattle.std.specs.Prelude.{ℕ, ◌%◌}
use Rattle.book.specs.declared.DeskStep.{DeskStep}
use Rattle.book.specs.declared.DeskStep.TheVariants.{Look as look, Claim as claim, Fetch as fetch, Finish as finish}

abbrev pub block_read : ℕ → ℕ → DeskStep → ℕ
block_read nb turn (look i) = i
block_read nb turn claim = turn % nb
block_read nb turn fetch = turn % nb
block_read nb turn finish = turn % nb
