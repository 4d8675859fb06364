-- The laws of proofs/Moves.antt, at the head, the table and the entries that came.
use Rattle.std.proofs.Common.{◌≡◌, ◌<◌, get_or, sym, arith}
use Rattle.book.specs.Sizes.{sized}
use Rattle.book.specs.Steps.{idle}
use Rattle.book.specs.Verdicts.{takes, admitted}
use Rattle.line.specs.Line.{desk_of, numbers_of}
use Rattle.byvalue.proofs.Ready.{blocks}
use Rattle.desks.specs.Reading.{block_read}
use Rattle.desks.proofs.Moves.{record_few, desk_in_lem, no_desk, not_admitted, block_in, few_in, look_in, fetch_in, moves}
use Rattle.desks.proofs.desk_step.Goals as goal
use Rattle.desks.proofs.desk_step.Goals.{After-from-at, After-block_read-i}

pub returns-then-h-from : goal.returns-then-h-from
returns-then-h-from c = rw c.refused.ensures (no_desk _ _ _ c.requires _ _ (rw c.from.ensures at c.if-h-from.true))

desk_in : (c : After-from-at) → c.from-at.result < 16
desk_in c = rw c.from-at.ensures (desk_in_lem _ _ _ c.requires _ (rw c.from.ensures at c.if-h-from.false))

pub bounds-h-at : goal.bounds-h-at
bounds-h-at c = desk_in (goal.at.bounds-h-at c).After-from-at

pub returns-in-Err : goal.returns-in-Err
returns-in-Err c =
    let b = rw c.from.ensures at c.if-h-from.false in
    rw c.refused-in-Err.ensures (not_admitted _ _ _ c.requires _ _ b _ (sym (rw (c.from-nb.ensures, c.from-at.ensures) at c.in-Err.ensures)))

pub block_read-i-requires : goal.block_read-i-requires
block_read-i-requires c = rw c.from-nb.ensures (blocks _ _ _ c.requires)

-- ---- there is such a desk, the step may be made, and it reads this block

there : (c : After-block_read-i) → c.args.d < c.args.h.t
there c = rw c.from.ensures at c.if-h-from.false

may : (c : After-block_read-i) → admitted (sized c.args.h.nb 0 1) 0 c.args.s (desk_of (get_or c.args.h.desks c.args.d (numbers_of idle))) ≡ takes
may c = sym (rw (c.from-nb.ensures, c.from-at.ensures) at c.in_default.ensures)

read : (c : After-block_read-i) → c.block_read-i.result ≡ block_read c.args.h.nb (get_or c.args.h.desks c.args.d (numbers_of idle)).turn c.args.s
read c = rw (c.from-nb.ensures, c.from-at.ensures) at c.block_read-i.ensures

few : (c : After-block_read-i) → c.block_read-i.result < 64
few c = few_in _ _ _ c.requires _ _ (there c) (may c) _ (read c)

pub bounds-table-i : goal.bounds-table-i
bounds-table-i c = few (goal.at.bounds-table-i c).After-block_read-i

pub take-answer-requires-clause-in_range : goal.take-answer-requires-clause-in_range
take-answer-requires-clause-in_range c =
    let g = (goal.at.take-answer-requires-clause-in_range c).After-block_read-i in
    let b = blocks _ _ _ c.requires in
    let q = record_few _ _ _ c.requires _ (block_in _ _ _ c.requires _ _ (there g) (may g) _ (read g)) in
    (b.0, b.1, omega arith, omega arith)

pub take-answer-requires-clause-by_step : goal.take-answer-requires-clause-by_step
take-answer-requires-clause-by_step c =
    let g = (goal.at.take-answer-requires-clause-by_step c).After-block_read-i in
    let b = there g in
    rw c.from-at.ensures (look_in _ _ _ c.requires _ _ b (may g) _ (read g), fetch_in _ _ _ c.requires _ _ b (may g) _ (read g))

pub bounds-head-at : goal.bounds-head-at
bounds-head-at c = desk_in (goal.at.bounds-head-at c).After-from-at

pub bounds-records-i : goal.bounds-records-i
bounds-records-i c = few (goal.at.bounds-records-i c).After-block_read-i

pub returns : goal.returns
returns c =
    let g = (goal.at.returns c).After-block_read-i in
    rw c.from-at.ensures (moves _ _ _ c.requires _ _ (there g) (may g) _ (read g) _ (rw c.from-at.ensures at c.take-answer.ensures))
