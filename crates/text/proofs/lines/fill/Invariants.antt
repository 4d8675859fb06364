-- The bytes of the lines passed are written, and the lines left decide.
use Rattle.std.proofs.Common.{◌≡◌, ◌+◌, ◌≤◌, length}
use Rattle.std.specs.Iterator.Adapters.{enumerate_source, enumerate_count}
use Rattle.text.proofs.Whole.{Going}
use Rattle.text.proofs.lines.fill.Given as goal

abbrev pub invariant-loop-i : goal.invariant-loop-i
invariant-loop-i l =
    (goal.iterator-loop-i).can_next l.i-iterator × (goal.iterator-loop-i).is_finite l.i-iterator
    × (length l.page.room.now ≡ 262144) × (length (enumerate_source l.i-iterator).0.now ≤ length l.text)
    × Going l.text l.initial.page (enumerate_count l.i-iterator + 1) (enumerate_source l.i-iterator).0.now l.page
