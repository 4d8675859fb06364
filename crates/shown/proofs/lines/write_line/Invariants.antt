-- The numbers from n on are still to be written.
use Rattle.std.proofs.Common.{drop}
use Rattle.shown.specs.Shown.{line_of, numbers_text}
use Rattle.shown.proofs.Ahead.{Ahead}
use Rattle.shown.proofs.lines.write_line.Given as goal

abbrev pub invariant-loop-n : goal.invariant-loop-n
invariant-loop-n l = Ahead (numbers_text (drop l.n-index l.numbers)) (line_of l.word l.numbers) l.fn.page l.page
