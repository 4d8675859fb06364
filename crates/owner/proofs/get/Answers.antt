use Rattle.std.proofs.Common.{◌<◌, ◌≤◌, sym, arith}
use Rattle.std.proofs.lemmas.Bool.{ltb-true}
use Rattle.byvalue.proofs.Ready.{sizes, blocks, block_below, stands}
use Rattle.owner.proofs.Gets.{begins, onward, moved, empty, got, place_below}
use Rattle.owner.proofs.get.Goals as goal
use Rattle.owner.proofs.get.Goals.{After-from-place}

pub block_of-here-requires : goal.block_of-here-requires
block_of-here-requires c = rw c.from-nb.ensures (blocks _ _ _ c.requires)

pub loop-current-init : goal.loop-current-init
loop-current-init c = begins _ _ _ c.requires _ (rw c.from-nb.ensures at c.block_of-here.ensures.0)

pub block_after-here-requires : goal.block_after-here-requires
block_after-here-requires c =
    let s = c.loop-current.invariant in
    rw c.from-nb.ensures (block_below _ _ _ s.ready _ _ s.block)

pub loop-current-smaller : goal.loop-current-smaller
loop-current-smaller c = omega (arith, onward c.loop-current.invariant (sym c.loop-current-test.ensures))

pub loop-current-preserved : goal.loop-current-preserved
loop-current-preserved c =
    moved c.loop-current.invariant (sym c.loop-current-test.ensures) _ (rw c.from-nb.ensures at c.block_after-here.ensures.0)

pub returns-then-not-is_written : goal.returns-then-not-is_written
returns-then-not-is_written c =
    rw c.refused.ensures (empty c.loop-current.invariant (sym c.loop-current-test.ensures) (sym c.if-not-is_written.ensures))

-- the reading place is below NE, where a label stands at it
below : (c : After-from-place) → (c.loop-current.head.reading < c.args.h.ne) × (c.args.h.ne ≤ 64)
below c =
    let s = c.loop-current.invariant in
    (place_below s (ltb-true _ _ (sym c.if-not-is_written.ensures)), (sizes _ _ _ s.ready).ne_most)

pub read_label-label-requires : goal.read_label-label-requires
read_label-label-requires c =
    let s = c.loop-current.invariant in
    rw (c.from-ne.ensures, c.from-place.ensures)
    (stands _ _ _ s.ready _ _ s.block _ (below (goal.at.read_label-label-requires c).After-from-place).0)

pub overflow_add-head-2 : goal.overflow_add-head-2
overflow_add-head-2 c = omega (arith, below (goal.at.overflow_add-head-2 c).After-from-place)

pub returns : goal.returns
returns c =
    got c.loop-current.invariant (sym c.loop-current-test.ensures) _ (sym c.if-not-is_written.ensures)
    (rw (c.from-ne.ensures, c.from-place.ensures) at c.read_label-label.ensures)
