-- The bytes from b on are still to be written.
use Rattle.std.proofs.Common.{drop}
use Rattle.shown.specs.Shown.{line_text, numbers_text}
use Rattle.shown.proofs.Ahead.{Ahead}
use Rattle.shown.proofs.lines.write_cut.Given as goal

abbrev pub invariant-loop-b : goal.invariant-loop-b
invariant-loop-b l = Ahead (numbers_text (drop l.b-index l.bytes)) (line_text "bytes" l.bytes) l.fn.page l.page
