-- The loop: no more answers are refusals than there were steps.
use Rattle.std.proofs.Common.{◌≤◌}
use Rattle.bench.proofs.Measured.run.Given as goal

abbrev pub invariant-loop-i : goal.invariant-loop-i
invariant-loop-i l = l.refused ≤ l.i
