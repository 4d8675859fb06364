-- Where the room is asked for, turn P's block is known; each answer is then a law's.
use Rattle.std.proofs.Common.{arith}
use Rattle.byvalue.proofs.Ready.{blocks}
use Rattle.owner.proofs.Puts.{Reads, room_asks, room_below, room_stands, roomed_takes, roomed_refuses, put_refused, put_taken}
use Rattle.owner.proofs.put.Goals as goal
use Rattle.owner.proofs.put.Goals.{After-block_of-here}

reads : (c : After-block_of-here) → Reads c.args.h c.args.table c.args.entries.now c.block_of-here.result
reads c = record { ready = c.requires; here = rw c.from-nb.ensures at c.block_of-here.ensures.0 }

pub block_of-here-requires : goal.block_of-here-requires
block_of-here-requires c = rw c.from-nb.ensures (blocks _ _ _ c.requires)

pub room_for-requires-clause-sizes : goal.room_for-requires-clause-sizes
room_for-requires-clause-sizes c = room_asks (reads (goal.at.room_for-requires-clause-sizes c).After-block_of-here)

pub write_label-requires : goal.write_label-requires
write_label-requires c =
    rw c.from-ne.ensures
    (room_stands (reads (goal.at.write_label-requires c).After-block_of-here) _ (roomed_takes _ _ _ c.in-Ok.ensures).1)

pub offset_bounds-records-room : goal.offset_bounds-records-room
offset_bounds-records-room c =
    omega (arith, room_below (reads (goal.at.offset_bounds-records-room c).After-block_of-here) _ (roomed_takes _ _ _ c.in-Ok.ensures).1)

pub bounds-records-room : goal.bounds-records-room
bounds-records-room c =
    room_below (reads (goal.at.bounds-records-room c).After-block_of-here) _ (roomed_takes _ _ _ c.in-Ok.ensures).1

pub returns-in-Ok : goal.returns-in-Ok
returns-in-Ok c =
    let r = roomed_takes _ _ _ c.in-Ok.ensures in
    put_taken (reads (goal.at.returns-in-Ok c).After-block_of-here) _ r.0
    (record { room = r.1; entries = rw c.from-ne.ensures at c.write_label.ensures })

pub returns-in-Err : goal.returns-in-Err
returns-in-Err c =
    rw c.refused.ensures
    (put_refused (reads (goal.at.returns-in-Err c).After-block_of-here) _ _ (roomed_refuses _ _ _ c.in-Err.ensures))
