-- By the stages of the two desks.
use Rattle.rules.proofs.Stages.{clash}
use Rattle.rules.proofs.desks.clash.Goals as goal

pub returns : goal.returns
returns c = clash _ _ _ _ c.is_holding.ensures c.is_holding-2.ensures
