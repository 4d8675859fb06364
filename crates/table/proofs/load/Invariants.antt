-- The first i records are laid into the table of 64, of which the rooms for lent records come first.
use Rattle.std.proofs.Common.{◌≡◌, ◌++◌, drop, length, replicate}
use Rattle.line.specs.Line.{unused}
use Rattle.table.specs.Laid.{laid, loaded}
use Rattle.table.proofs.load.Given as goal

abbrev pub invariant-loop-i : goal.invariant-loop-i
invariant-loop-i l = laid (drop l.i l.table) l.i (l.room-items ++ drop (length l.room-items) (replicate 64 unused)) ≡ loaded l.table
