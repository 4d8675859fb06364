-- Labels come out of the line in the order they went in: by demand 2 its answers are the book's.
use Rattle.book.specs.Order.{FirstInFirstOut, GotInOrder}
use Rattle.book.proofs.FirstOut.{first_in_first_out}
use Rattle.book.proofs.Labels.{got_in_order}
use Rattle.line.specs.Demands.{Demand2}
use Rattle.line.specs.FirstOut.{LineFirstInFirstOut, LineGotInOrder}
use Rattle.line.proofs.Runs.{demand2}

pub line_first_in_first_out : LineFirstInFirstOut
unfolding LineFirstInFirstOut Demand2 FirstInFirstOut
line_first_in_first_out z ss f = rw (demand2 z ss f) (first_in_first_out z ss)

pub line_got_in_order : LineGotInOrder
unfolding LineGotInOrder Demand2 GotInOrder
line_got_in_order z ss f = rw (demand2 z ss f) (got_in_order z ss)
