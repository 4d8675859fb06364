-- The current turn of a used block stands there.
use Rattle.std.proofs.Common.{le-leb}
use Rattle.ring.proofs.Backward.{turn_block}
use Rattle.rules.proofs.blocks.block_rules.Goals as goal

pub rule4-requires : goal.rule4-requires
rule4-requires c =
    (c.args.ring.few, c.requires, turn_block _ _ _ _ c.requires c.current_turn-turn.ensures (le-leb _ _ c.if-ring-i.false))
