-- The loops: no desk before i clashes with a later one, and desk i with none of the later ones passed.
use Rattle.std.proofs.Common.{◌≡◌, false, drop, ◌+◌}
use Rattle.line.specs.Line.{desk_of}
use Rattle.line.specs.Tests.{clashes, no_clash}
use Rattle.rules.proofs.desks.any_clash.Given as goal

abbrev pub invariant-loop-b : goal.invariant-loop-b
invariant-loop-b l = record {
  none : l.found ≡ false;
  items : l.b-items ≡ drop (l.i + 1) l.desks;
  rest : clashes (desk_of l.a) l.b-items ≡ clashes (desk_of l.a) (drop l.b-index l.b-items);
}

abbrev pub invariant-pairs : goal.invariant-pairs
invariant-pairs l = record { none : l.found ≡ false; rest : no_clash l.desks ≡ no_clash (drop l.i l.desks) }
