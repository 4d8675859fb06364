-- After i steps the line is sound, the bytes behind are those of the steps that are left, and there is room for their lines.
use Rattle.std.proofs.Common.{◌≡◌, ◌+◌, ◌-◌, ◌*◌, ◌/◌, length}
use Rattle.std.specs.Iterator.Adapters.{enumerate_source, enumerate_count}
use Rattle.std.specs.Slice.Iter.{chunks_exact_rest, chunks_exact_size}
use Rattle.line.specs.Line.{size_of}
use Rattle.line.specs.Agrees.{Lawful}
use Rattle.byvalue.specs.Lent.{line_of}
use Rattle.schedule.specs.Bytes.{step_bytes, most_steps, whole_steps}
use Rattle.printing.specs.Writes.{line_most}
use Rattle.printing.specs.Page.{HasRoom}
use Rattle.player.specs.Spoken.{run}
use Rattle.player.specs.Printed.{printed}
use Rattle.player.proofs.Rest.{Continues}
use Rattle.player.proofs.steps.play_steps.Given as goal

abbrev pub invariant-loop-i : goal.invariant-loop-i
invariant-loop-i l =
    let steps = enumerate_source l.i-iterator in
    let i = enumerate_count l.i-iterator in
    let behind = chunks_exact_rest steps in
    record {
      by_nines : chunks_exact_size steps ≡ step_bytes;
      count : i + length behind / step_bytes ≡ whole_steps l.input;
      room : HasRoom (line_most * (most_steps - i)) l.page;
      sound : Lawful (size_of l.fn.opened) (line_of l.head l.table l.n l.entries);
      left : Continues l.input (printed (run l.input (line_of l.fn.opened l.fn.records l.n l.fn.entries))) l.fn.page i behind (line_of l.head l.table l.n l.entries) l.page;
    }
