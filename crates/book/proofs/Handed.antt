-- The labels that the answers hand over are those of the rows that leave, in order, read in the book at the end.
-- A step hands over the labels of the rows that leave by it, and a row on the list keeps its label: `hands` and `reads`,
-- which proofs/Counting.antt has for every step and every run.
use Rattle.std.proofs.Common.{refl}
use Rattle.book.specs.Book.{row_at, opened, after}
use Rattle.book.specs.Demands.{Handed}
use Rattle.book.proofs.Counting.{opened_kept}

pub handed_over : Handed
unfolding Handed
handed_over z ss = (opened_kept z ss).hands.labels (λ n. (row_at (after z (opened z) ss).rows n).label) (λ n h. refl)
