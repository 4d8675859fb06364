use Rattle.player.proofs.Whole.{front_plays}
use Rattle.player.proofs.play.Goals as goal

pub returns : goal.returns
returns c = front_plays _ _ _ _ c.new-page.ensures c.play_on.ensures
