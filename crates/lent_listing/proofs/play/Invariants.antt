-- No more steps agree than were made.
use Rattle.std.proofs.Common.{◌≤◌}
use Rattle.lent_listing.proofs.play.Given as goal

abbrev pub invariant-loop-i : goal.invariant-loop-i
invariant-loop-i g l = l.agreed ≤ l.i
