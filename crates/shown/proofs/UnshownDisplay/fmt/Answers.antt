-- Of each reason, its word.
use Rattle.shown.proofs.UnshownDisplay.fmt.Goals as goal

pub returns-in-Long-clause-writes : goal.returns-in-Long-clause-writes
returns-in-Long-clause-writes g c = rw c.in-Long.is c.write_str.ensures.writes

pub returns-in-Header-clause-writes : goal.returns-in-Header-clause-writes
returns-in-Header-clause-writes g c = rw c.in-Header.is c.write_str-in-Header.ensures.writes

pub returns-in-Unfit-clause-writes : goal.returns-in-Unfit-clause-writes
returns-in-Unfit-clause-writes g c = rw c.in-Unfit.is c.write_str-in-Unfit.ensures.writes
