use Rattle.std.proofs.Common.{arith, codes}
use Rattle.shown.proofs.Numbered.{word_written, number_room, number_written, newline_room, line_written}
use Rattle.shown.proofs.lines.write_cut.Goals as goal

pub loop-b-init : goal.loop-b-init
loop-b-init c = let a = c.args in word_written (codes "bytes") a.bytes.now a.page.now _ c.requires c.text.ensures

pub write_number-requires : goal.write_number-requires
write_number-requires c = rw c.from.ensures (number_room c.args.bytes.now _ _ _ c.loop-b.b-index c.loop-b.invariant (omega arith))

pub loop-b-preserved : goal.loop-b-preserved
loop-b-preserved c = number_written c.args.bytes.now _ _ _ c.loop-b.b-index c.loop-b.invariant (omega arith) _ (rw c.from.ensures at c.write_number.ensures)

pub byte-requires : goal.byte-requires
byte-requires c = newline_room c.args.bytes.now _ _ _ c.loop-b.b-index c.loop-b.invariant (omega arith)

pub returns : goal.returns
returns c = line_written c.args.bytes.now _ _ _ c.loop-b.b-index c.loop-b.invariant (omega arith) _ c.byte.ensures
