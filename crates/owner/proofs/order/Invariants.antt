-- The labels below `label` are placed.
use Rattle.owner.proofs.Orders.{Placed}
use Rattle.owner.proofs.order.Given as goal

abbrev pub invariant-loop-label : goal.invariant-loop-label
invariant-loop-label l = Placed l.fn.h l.fn.table l.fn.entries l.a l.b l.head l.t l.entries l.here l.label
