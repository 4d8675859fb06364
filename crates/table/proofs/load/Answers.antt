-- A record is read into its room in the table of 64.
use Rattle.std.proofs.Common.{◌≡◌, length, replicate, sym, ◌∙◌, arith}
use Rattle.std.proofs.lemmas.Grind.{common_steps}
use Rattle.line.specs.Line.{unused}
use Rattle.table.proofs.Laws.{laid_next_before, laid_done}
use Rattle.table.proofs.load.Goals as goal

pub loop-i-preserved : goal.loop-i-preserved
loop-i-preserved c =
    rw c.record_at.ensures
    (laid_next_before c.args.table.now c.loop-i.room-items (replicate 64 unused) c.loop-i.i (grind (arith, common_steps)) (grind (arith, common_steps))
    ∙ c.loop-i.invariant)

pub returns : goal.returns
returns c =
    let rooms : c.min.result ≡ length c.loop-i.room-items = grind (arith, common_steps) in
    rw (c.no_table-t.ensures, rooms) (sym (laid_done c.args.table.now c.loop-i.i _ (grind (arith, common_steps))) ∙ c.loop-i.invariant)
