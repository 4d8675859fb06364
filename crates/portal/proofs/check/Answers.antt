-- `portal::check` loads the lent records, and asks the check of `rules`.
use Rattle.portal.proofs.Outcomes.{checked}
use Rattle.portal.proofs.check.Goals as goal

pub returns : goal.returns
returns c =
    checked c.args.head.now c.args.table.now c.args.entries.now c.check.result
    (rw c.load.ensures at c.check.ensures)
