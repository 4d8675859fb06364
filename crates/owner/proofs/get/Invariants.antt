-- A get has come to the reading place of turn K of `head`. The measure is how far that is from P.
use Rattle.std.proofs.Common.{◌-◌}
use Rattle.owner.proofs.Gets.{Come}
use Rattle.owner.proofs.get.Given as goal

abbrev pub invariant-loop-current : goal.invariant-loop-current
invariant-loop-current l = Come l.fn.h l.table l.entries l.head l.here l.current

abbrev pub decreases-loop-current : goal.decreases-loop-current
decreases-loop-current l = l.fn.h.p - l.head.k
