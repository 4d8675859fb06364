-- `portal::survey` loads the lent records, and asks the engine's survey.
use Rattle.portal.proofs.Outcomes.{surveyed}
use Rattle.portal.proofs.survey.Goals as goal

pub returns : goal.returns
returns c =
    surveyed c.args.head.now c.args.table.now c.args.entries.now c.survey.result
    (rw c.load.ensures at c.survey.ensures)
