-- What the portal promises of the narrowed sizes, and the reply that is made of its answer, is what is promised of the
-- sizes as they were given.
use Rattle.portal.specs.Promises.{lent, the_size}
use Rattle.lbq.proofs.Replied.{opened}
use Rattle.lbq.proofs.lbq_open.Goals as goal

pub returns : goal.returns
returns c =
    rw c.from.ensures
    (opened (lent c.args.head.now c.args.table.now c.args.entries.now)
    (lent c.open-opening.new.head c.open-opening.new.table c.open-opening.new.entries)
    c.open-opening.result (the_size c.args.nb c.args.ne c.args.t)
    (rw (c.size.ensures, c.size-2.ensures, c.size-3.ensures) at c.open-opening.ensures))
