use Rattle.std.proofs.Common.{refl}
use Rattle.book.specs.Sizes.{current_turn}
use Rattle.line.specs.Line.{look_of}
use Rattle.desks.proofs.look.Goals as goal

pub returns-in-Ok : goal.returns-in-Ok
unfolding look_of current_turn
returns-in-Ok c = rw (← c.in-Ok.ensures, c.from.ensures, c.current_turn.ensures) refl
