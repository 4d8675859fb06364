use Rattle.std.proofs.Common.{arith}
use Rattle.shown.proofs.Numbered.{word_written, number_room, number_written, newline_room, line_written}
use Rattle.shown.proofs.lines.write_line.Goals as goal

pub loop-n-init : goal.loop-n-init
loop-n-init c = let a = c.args in word_written a.word.now a.numbers.now a.page.now _ c.requires c.text.ensures

pub write_number-requires : goal.write_number-requires
write_number-requires c = number_room c.args.numbers.now _ _ _ c.loop-n.n-index c.loop-n.invariant (omega arith)

pub loop-n-preserved : goal.loop-n-preserved
loop-n-preserved c = number_written c.args.numbers.now _ _ _ c.loop-n.n-index c.loop-n.invariant (omega arith) _ c.write_number.ensures

pub byte-requires : goal.byte-requires
byte-requires c = newline_room c.args.numbers.now _ _ _ c.loop-n.n-index c.loop-n.invariant (omega arith)

pub returns : goal.returns
returns c = line_written c.args.numbers.now _ _ _ c.loop-n.n-index c.loop-n.invariant (omega arith) _ c.byte.ensures
