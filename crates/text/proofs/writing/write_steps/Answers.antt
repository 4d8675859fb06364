use Rattle.std.proofs.Common.{refl, arith}
use Rattle.text.proofs.Bytes.{repeats_none, repeats_room, repeats_more}
use Rattle.text.proofs.writing.write_steps.Goals as goal

pub loop-i-init : goal.loop-i-init
loop-i-init c = repeats_none _ _ (omega arith)

pub write_step-requires : goal.write_step-requires
write_step-requires c = repeats_room _ c.args.times _ _ _ refl (omega arith) c.requires c.loop-i.invariant

pub loop-i-preserved : goal.loop-i-preserved
loop-i-preserved c = repeats_more _ _ _ _ _ c.loop-i.invariant c.write_step.ensures
