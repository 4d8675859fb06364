-- Behind the name, a newline; behind that, four bytes.
use Rattle.std.proofs.Common.{arith}
use Rattle.text.proofs.Bytes.{letter_room, letter_wrote, letters_wrote, mark_room, length_room, name_wrote}
use Rattle.text.proofs.writing.write_name.Goals as goal

pub byte-requires : goal.byte-requires
byte-requires c = letter_room _ _ _ _ c.loop-b.invariant c.requires (omega arith)

pub loop-b-preserved : goal.loop-b-preserved
loop-b-preserved c = letter_wrote _ _ _ _ c.loop-b.invariant _ (omega arith) c.byte.ensures

pub byte-requires-2 : goal.byte-requires-2
byte-requires-2 c = let h = mark_room _ _ _ _ c.loop-b.invariant (omega arith) c.requires in omega arith

pub bytes-requires : goal.bytes-requires
bytes-requires c = rw c.to_be_bytes.ensures (length_room _ _ (mark_room _ _ _ _ c.loop-b.invariant (omega arith) c.requires) c.byte-2.ensures)

pub returns : goal.returns
returns c =
    let name = letters_wrote _ _ _ _ c.loop-b.invariant (omega arith) in
    name_wrote _ c.args.k _ _ _ _ _ c.to_be_bytes.ensures name c.byte-2.ensures c.bytes.ensures
