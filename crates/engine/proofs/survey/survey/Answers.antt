-- The laws of proofs/Surveying.antt, on a line that the check has found sound.
use Rattle.std.proofs.Common.{ℕ, ap, ◌∙◌, arith, rules}
use Rattle.std.proofs.lemmas.Result.{err_from_is_err_and}
use Rattle.line.specs.Survey.{surveyed, surveys}
use Rattle.engine.proofs.Looks.{seen_bit}
use Rattle.engine.proofs.Mask.{mask_none, mask_set, told}
use Rattle.engine.proofs.Surveying.{survey_by, some_blocks, lent_few, lent_all, lent_in, survey_sound}
use Rattle.engine.proofs.survey.survey.Goals as goal

pub returns-in_err-check : goal.returns-in_err-check
unfolding surveys
returns-in_err-check c =
    let p = err_from_is_err_and c.from_residual.result c.from_residual.ensures.1 in
    rw (p.1, p.2) (survey_by _ _ c.in_err-check.ensures)

pub new-ring-requires : goal.new-ring-requires
new-ring-requires c = rw c.from.ensures (some_blocks _ _ _ _ (search rules) c.in_ok-check.ensures)

pub slice_bounds-table-end : goal.slice_bounds-table-end
slice_bounds-table-end c = lent_few _ _ _ _ (search rules) c.in_ok-check.ensures

pub slice_bounds-c-items-end : goal.slice_bounds-c-items-end
slice_bounds-c-items-end c = lent_all _ _ _ _ (search rules) c.in_ok-check.ensures

pub loop-i-init : goal.loop-i-init
loop-i-init c = mask_none _

pub may_look-requires : goal.may_look-requires
may_look-requires c = rw (c.new-ring.ensures.0, c.from.ensures) (lent_in _ _ _ _ (search rules) c.in_ok-check.ensures _ c.loop-i-test.true)

pub loop-i-preserved : goal.loop-i-preserved
loop-i-preserved c =
    let b = some_blocks _ _ _ _ (search rules) c.in_ok-check.ensures in
    let k = lent_in _ _ _ _ (search rules) c.in_ok-check.ensures _ c.loop-i-test.true in
    mask_set _ _ _ _ (omega arith) c.loop-i.invariant
    (rw (c.from-in-loop-i.ensures, c.is_ok-seen.ensures.value, c.may_look.ensures, c.new-ring.ensures.0, c.new-ring.ensures.1, c.from.ensures) (seen_bit _))

pub returns : goal.returns
returns c = ap (λ (m : ℕ). surveyed (told m)) c.loop-i.invariant ∙ survey_sound _ _ _ _ (search rules) c.in_ok-check.ensures _ (omega arith)
