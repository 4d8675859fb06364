use Rattle.desks.proofs.Won.{won}
use Rattle.desks.proofs.still_won.Goals as goal

pub returns : goal.returns
returns c = won _ _ _ _ _ c.args.ring.some _ c.is_current.ensures
