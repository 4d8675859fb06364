-- The bytes of the lines passed, and those of the lines left, are the section's.
use Rattle.std.proofs.Common.{◌≡◌, ◌+◌, ◌*◌, ◌≤◌, length}
use Rattle.text.specs.Pieces.{lines}
use Rattle.text.specs.Meaning.{section}
use Rattle.text.proofs.lines.section_of.Given as goal

abbrev pub invariant-loop-line : goal.invariant-loop-line
invariant-loop-line l =
    (goal.iterator-loop-line).can_next l.line-iterator × (goal.iterator-loop-line).is_finite l.line-iterator
    × (l.total + 38654705665 * length l.line-iterator.0.now ≤ 38654705665 * length l.text)
    × (l.total + section (lines l.line-iterator.0.now) ≡ section (lines l.text))
