-- The digits from place i on, behind the number so far, say what the word says.
use Rattle.text.proofs.Numbers.{Reading}
use Rattle.text.proofs.pieces.number_of.Given as goal

abbrev pub invariant-loop-b : goal.invariant-loop-b
invariant-loop-b l = Reading l.word l.n l.b-index
