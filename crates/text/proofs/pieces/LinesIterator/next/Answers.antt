use Rattle.text.proofs.Words.{zero_is, some_is}
use Rattle.text.proofs.pieces.LinesIterator.next.Goals as goal

pub returns-then-is_empty-clause-steps : goal.returns-then-is_empty-clause-steps
returns-then-is_empty-clause-steps c = zero_is _ c.if-is_empty.ensures

pub first_line-requires : goal.first_line-requires
first_line-requires c = some_is _ c.if-is_empty.ensures

pub returns-clause-goes : goal.returns-clause-goes
returns-clause-goes c = record { on = λ _. (tt, tt, c.first_line.ensures.less); keeps = tt; rests = λ _. tt }
