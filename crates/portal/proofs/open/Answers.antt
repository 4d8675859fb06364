-- What the engine gives of what was lent is what the portal tells.
use Rattle.portal.specs.Promises.{lent, the_size, Opens}
use Rattle.portal.proofs.Outcomes.{begun, told_of}
use Rattle.portal.proofs.open.Goals as goal

pub returns : goal.returns
returns c =
    let head = c.args.head.now in let table = c.args.table.now in let entries = c.args.entries.now in
    let l = c.lend.ensures in let z = the_size c.args.nb c.args.ne c.args.t in
    told_of (Opens (lent head table entries) z) l (begun head table entries l.left.now z l.outcome (rw l.same at l.met.2))
