-- The name's bytes up to b are written.
use Rattle.std.proofs.Common.{take}
use Rattle.printing.specs.Page.{Wrote}
use Rattle.text.proofs.writing.write_name.Given as goal

abbrev pub invariant-loop-b : goal.invariant-loop-b
invariant-loop-b l = Wrote (take l.b-index l.name) l.fn.page l.page
