-- The loop: the rules asked before block i all hold.
use Rattle.std.proofs.Common.{◌≡◌, replicate}
use Rattle.line.specs.Check.{check}
use Rattle.byvalue.specs.Lent.{line_of}
use Rattle.rules.proofs.First.{blocks_from}
use Rattle.rules.proofs.check.Given as goal

abbrev pub invariant-loop-i : goal.invariant-loop-i
invariant-loop-i l = check (line_of l.h l.fn.table l.n (replicate l.m 0)) ≡ blocks_from l.h l.fn.table l.i
