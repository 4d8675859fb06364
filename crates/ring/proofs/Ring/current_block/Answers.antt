-- The turn is P - turn before P, and its block as many back from P's.
use Rattle.ring.proofs.Backward.{block_at}
use Rattle.ring.proofs.Ring.current_block.Goals as goal

pub returns-then-is_current : goal.returns-then-is_current
returns-then-is_current c = block_at c.args.self _ _ _ c.is_current.ensures c.if-is_current.true c.back.ensures
