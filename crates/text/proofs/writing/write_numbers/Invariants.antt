-- The words that were read are written; those of the rest are left.
use Rattle.text.specs.Pieces.{words}
use Rattle.text.proofs.Stored.{Noted}
use Rattle.text.proofs.writing.write_numbers.Given as goal

abbrev pub invariant-loop-word : goal.invariant-loop-word
invariant-loop-word l =
    (goal.iterator-loop-word).can_next l.word-iterator × (goal.iterator-loop-word).is_finite l.word-iterator
    × Noted (words l.line) (words l.word-iterator.0.now) l.initial.page l.page
