-- The steps of the bytes that the iterator has left, and the cut step, are still to be written.
use Rattle.std.proofs.Common.{◌≡◌, ◌++◌}
use Rattle.std.specs.Slice.Iter.{chunks_exact_rest, chunks_exact_size}
use Rattle.schedule.specs.Bytes.{step_bytes}
use Rattle.schedule.proofs.Chunks.{steps_in}
use Rattle.shown.specs.Shown.{steps_text, cut_text, text}
use Rattle.shown.proofs.Ahead.{Ahead}
use Rattle.shown.proofs.whole.write_text.Given as goal

abbrev pub invariant-loop-step : goal.invariant-loop-step
invariant-loop-step l = record {
  by_nine : chunks_exact_size l.step-iterator ≡ step_bytes;
  ahead : Ahead (steps_text (steps_in (chunks_exact_rest l.step-iterator)) ++ cut_text l.input) (text l.input) l.fn.page l.page;
}
