-- The six pieces of a line, one behind the other, are the line, and 25 bytes at most.
use Rattle.printing.proofs.Lines.{line_wrote, line_short}
use Rattle.printing.proofs.Page.line.Goals as goal

pub returns-clause-writes : goal.returns-clause-writes
returns-clause-writes c =
    line_wrote _ _ _ _ _ _ _ _ _ _ c.number.ensures c.byte.ensures c.text.ensures c.byte-2.ensures c.number-2.ensures c.byte-3.ensures

pub returns-clause-upper_bound : goal.returns-clause-upper_bound
returns-clause-upper_bound c =
    line_short _ _ _ _ _ c.requires.1 c.requires.2 c.ranges.value.fits
    (line_wrote _ _ _ _ _ _ _ _ _ _ c.number.ensures c.byte.ensures c.text.ensures c.byte-2.ensures c.number-2.ensures c.byte-3.ensures)
