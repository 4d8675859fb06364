-- The digits above the last are those of the tenth, which is less: so the calls end.
use Rattle.printing.proofs.Page.+number.Given as goal

abbrev pub decreases-number : goal.decreases-number
decreases-number l = l.n
