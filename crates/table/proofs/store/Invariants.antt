-- The first i records of the table of 64 are laid over those that are lent.
use Rattle.std.proofs.Common.{◌≡◌, drop}
use Rattle.table.specs.Laid.{laid, stored}
use Rattle.table.proofs.store.Given as goal

abbrev pub invariant-loop-i : goal.invariant-loop-i
invariant-loop-i l = laid (drop l.i l.fn.t) l.i l.table ≡ stored l.initial.table l.fn.t
