-- Past the tests the verdict takes, and the room is that of the definition.
use Rattle.std.proofs.Common.{◌≡◌, ◌+◌, ◌%◌, ◌/◌, ◌<◌, get_or, sym, ap, arith}
use Rattle.std.proofs.lemmas.Bool.{ltb-false}
use Rattle.book.specs.Verdicts.{placeable, takes}
use Rattle.line.specs.Line.{unused, size_of, is_busy}
use Rattle.ring.proofs.Backward.{next_block}
use Rattle.owner.proofs.Puts.{round_fits, is_roomed, room_here, room_next}
use Rattle.owner.proofs.room_for.Goals as goal
use Rattle.owner.proofs.room_for.Goals.{In_ok-may_put}

next_at : (c : In_ok-may_put) → c.block_after-next.result ≡ (c.args.here + 1) % c.args.h.now.nb
next_at c = rw c.from-nb.ensures at c.block_after-next.ensures.0

taken : (c : In_ok-may_put)
    → (let h = c.args.h.now in let t = c.args.table.now in
    placeable (size_of h) h.p (get_or t c.args.here unused).written h.k (is_busy (get_or t ((c.args.here + 1) % h.nb) unused)) c.args.a ≡ takes)
taken c = rw (← next_at c) (sym c.in_ok-may_put.ensures)

pub returns-then-has_room : goal.returns-then-has_room
returns-then-has_room c =
    is_roomed _ _ _ (taken (goal.at.returns-then-has_room c).In_ok-may_put)
    (room_here _ _ _ _ _ c.requires.stands (sym c.if-has_room.ensures) c.from.ensures)

pub overflow_cast-result : goal.overflow_cast-result
overflow_cast-result c =
    let r : (c.args.h.now.p + 1) / c.args.h.now.nb < 65536 =
    round_fits _ _ _ _ _ _ (taken (goal.at.overflow_cast-result c).In_ok-may_put) (ltb-false _ _ (sym c.if-has_room.ensures)) in
    rw c.from-nb.ensures (omega arith)

pub returns : goal.returns
returns c =
    let at = next_block _ _ _ _ c.requires.stands (next_at (goal.at.returns c).In_ok-may_put) in
    is_roomed _ _ _ (taken (goal.at.returns c).In_ok-may_put)
    (room_next _ _ _ _ _ at (sym c.if-has_room.ensures) (ap (λ n. (c.args.h.now.p + 1) / n) c.from-nb.ensures))
