use Rattle.std.proofs.Common.{sym, ◌∙◌, refl}
use Rattle.book.specs.Sizes.{sized}
use Rattle.book.specs.Verdicts.{admitted}
use Rattle.desks.proofs.Stages.{stage_of}
use Rattle.desks.proofs.Moves.{same_block}
use Rattle.desks.proofs.may_step.Goals as goal

pub returns-then-no_block : goal.returns-then-no_block
unfolding admitted
returns-then-no_block c = rw (same_block (sized c.args.nb 0 1) c.args.s ∙ sym c.if-no_block.ensures) refl

pub returns : goal.returns
unfolding admitted
returns c =
    rw (same_block (sized c.args.nb 0 1) c.args.s ∙ sym c.if-no_block.ensures, stage_of c.args.x c.requires, ← c.column_of.ensures.0)
    (rw c.from.ensures at c.at_stage.ensures)
