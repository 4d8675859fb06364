-- The loop: the desks passed obey the rule, and those of them from place T on are idle.
use Rattle.std.proofs.Common.{◌≡◌, ◌-◌, drop}
use Rattle.line.specs.Line.{size_of, record_of}
use Rattle.rules.proofs.Plain.{obeyed, free}
use Rattle.rules.proofs.Walks.{rest}
use Rattle.rules.proofs.desks.rule3.Given as goal

abbrev pub invariant-loop-d : goal.invariant-loop-d
invariant-loop-d l =
    let f = obeyed l.h.nb l.h.ne l.h.p (record_of (size_of l.h) l.table) in
    rest f free l.h.t l.h.desks ≡ rest f free (l.h.t - l.d) (drop l.d l.h.desks)
