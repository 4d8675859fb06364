-- What the portal promises of the narrowed code, and the reply that is made of its answer, is what is promised of the
-- code as it was given.
use Rattle.portal.specs.Promises.{lent}
use Rattle.lbq.proofs.Replied.{stepped}
use Rattle.lbq.proofs.lbq_step.Goals as goal

pub returns : goal.returns
returns c =
    rw c.from.ensures
    (stepped (lent c.args.head.now c.args.table.now c.args.entries.now)
    (lent c.step-answer.new.head c.step-answer.new.table c.step-answer.new.entries)
    c.step-answer.result c.args.code c.args.a c.args.b
    (rw c.code.ensures at c.step-answer.ensures))
