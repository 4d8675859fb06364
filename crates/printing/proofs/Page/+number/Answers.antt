-- A single digit is the whole number; else the last one stands behind those of the tenth.
use Rattle.std.proofs.Common.{arith}
use Rattle.printing.proofs.Lines.{one_digit, digit_behind}
use Rattle.printing.proofs.Page.+number.Goals as goal

pub returns-then-single : goal.returns-then-single
returns-then-single t c = one_digit _ _ _ _ (omega arith) c.byte.ensures (omega arith)

pub returns : goal.returns
returns t c = digit_behind _ _ _ _ _ (omega arith) c.number.ensures c.byte-2.ensures (omega arith)
