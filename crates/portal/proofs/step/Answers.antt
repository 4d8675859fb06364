-- What the engine gives of what was lent is what the portal tells.
use Rattle.portal.specs.Promises.{lent, the_step, Steps}
use Rattle.portal.proofs.Outcomes.{stepped, told_of}
use Rattle.portal.proofs.step.Goals as goal

pub returns : goal.returns
returns c =
    let head = c.args.head.now in let table = c.args.table.now in let entries = c.args.entries.now in
    let l = c.lend.ensures in let s = the_step c.args.code c.args.a c.args.b in
    told_of (Steps (lent head table entries) s) l (stepped head table entries l.left.now s l.outcome (rw l.same at l.met.2))
