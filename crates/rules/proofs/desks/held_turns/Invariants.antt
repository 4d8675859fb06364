-- The loop: the turns made so far are those of the desks passed.
use Rattle.std.proofs.Common.{◌≡◌, ◌<◌, ℕ, get_or}
use Rattle.book.specs.Steps.{idle}
use Rattle.line.specs.Line.{numbers_of}
use Rattle.rules.specs.Holders.{held_turn}
use Rattle.rules.proofs.desks.held_turns.Given as goal

abbrev pub invariant-loop-i : goal.invariant-loop-i
invariant-loop-i l = (k : ℕ) → k < l.i → get_or l.turn-items k 0 ≡ held_turn (get_or l.desks k (numbers_of idle))
