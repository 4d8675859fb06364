-- The word of an answer has eight letters at most.
use Rattle.std.proofs.Common.{ap, arith, length}
use Rattle.printing.proofs.Lines.{answer_short}
use Rattle.printing.proofs.Page.answer.Goals as goal

pub line-requires : goal.line-requires
line-requires c = (c.requires.0, c.requires.1, let e = ap length c.word.ensures in omega (arith, answer_short c.args.answer))
