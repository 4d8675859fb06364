-- The loop stops at the end of what is lent, or of the table of 64.
use Rattle.std.proofs.Common.{sym, ◌∙◌, arith}
use Rattle.std.proofs.lemmas.Grind.{common_steps}
use Rattle.table.proofs.Laws.{laid_done}
use Rattle.table.proofs.store.Goals as goal

pub returns : goal.returns
returns c = sym (laid_done c.args.t c.loop-i.i c.loop-i.table (grind (arith, common_steps))) ∙ c.loop-i.invariant
