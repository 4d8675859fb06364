-- Of the sizes of a line, these steps read NB alone.
use Rattle.book.specs.Sizes.{current_turn, is_owned}
use Rattle.book.specs.Verdicts.{lookable}
use Rattle.line.specs.Line.{moved_by, look_of, claim_of, wins}
use Rattle.desks.proofs.take.Goals as goal

pub returns-in-Look : goal.returns-in-Look
unfolding moved_by look_of lookable current_turn is_owned
returns-in-Look c = rw c.in-Look.is (rw (c.new-ring.ensures.0, c.new-ring.ensures.1, c.from.ensures) at c.look.ensures)

pub returns-in-Claim : goal.returns-in-Claim
unfolding moved_by claim_of wins current_turn is_owned
returns-in-Claim c = rw c.in-Claim.is (rw (c.new-ring.ensures.0, c.new-ring.ensures.1, c.from.ensures) at c.claim.ensures)
