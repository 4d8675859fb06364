-- What the engine gives of what was lent is what the portal tells.
use Rattle.portal.specs.Promises.{lent, Orders}
use Rattle.portal.proofs.Outcomes.{ordered, told_of}
use Rattle.portal.proofs.order.Goals as goal

pub returns : goal.returns
returns c =
    let head = c.args.head.now in let table = c.args.table.now in let entries = c.args.entries.now in
    let l = c.lend.ensures in
    told_of (Orders (lent head table entries) c.args.first c.args.last) l
    (ordered head table entries l.left.now c.args.first c.args.last l.outcome (rw l.same at l.met.2))
