-- It ends, since each turn leaves less room.
use Rattle.std.proofs.Common.{length, ◌-◌, ◌≡◌, ◌<◌, ◌^◌, ◌≤◌}
use Rattle.host.proofs.read_full.Given as goal

abbrev pub invariant-loop-done : goal.invariant-loop-done
invariant-loop-done g l = (length l.room ≡ length l.initial.room) × (l.done ≤ length l.room) × (length l.room < 2 ^ 64)

abbrev pub decreases-loop-done : goal.decreases-loop-done
decreases-loop-done g l = length l.initial.room - l.done
