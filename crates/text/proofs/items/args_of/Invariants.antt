-- The words that were read are numbers, and gathered; those of the rest are left.
use Rattle.text.specs.Pieces.{words}
use Rattle.text.proofs.Args.{Gathered}
use Rattle.text.proofs.items.args_of.Given as goal

abbrev pub invariant-loop-word : goal.invariant-loop-word
invariant-loop-word l =
    (goal.iterator-loop-word).can_next l.word-iterator × (goal.iterator-loop-word).is_finite l.word-iterator
    × Gathered (words l.line) (words l.word-iterator.0.now) l.args
