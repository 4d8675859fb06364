use Rattle.std.proofs.Common.{◌≡◌, ◌∙◌, sym, ap, ℕ, ◌<◌, arith}
use Rattle.std.specs.Slice.Iter.{chunks_exact_rest, chunks_exact_size}
use Rattle.schedule.specs.Bytes.{step_bytes}
use Rattle.schedule.proofs.Bytes.{headed_long}
use Rattle.shown.proofs.Parts.{size_room, size_written, step_room, step_written, cut_room, cut_written, none_written}
use Rattle.shown.proofs.whole.write_text.Goals as goal

pub write_line-requires : goal.write_line-requires
write_line-requires c = let a = c.args in size_room a.input.now a.size c.requires.1 _ _ _ c.from.ensures c.from-2.ensures c.from-3.ensures a.page.now c.requires.0

pub steps-whole-requires : goal.steps-whole-requires
steps-whole-requires c = headed_long c.args.input.now c.args.size c.requires.1

pub loop-step-init : goal.loop-step-init
loop-step-init c =
    let a = c.args in let s = c.steps-whole.ensures in let e = c.into_iter-step-iterator.ensures.into_iter_gives in
    record {
      by_nine = ap chunks_exact_size e ∙ s.size;
      ahead = size_written a.input.now a.size c.requires.1 _ _ _ c.from.ensures c.from-2.ensures c.from-3.ensures a.page.now _ _ c.requires.0
          c.write_line.ensures (ap chunks_exact_rest e ∙ s.rest);
    }

pub write_step-requires : goal.write_step-requires
write_step-requires c =
    let l = c.loop-step in let s = c.in-Some.ensures.steps in
    step_room c.args.input.now _ l.page _ l.invariant.ahead _ _ _ s.1.0 (s.1.1 ∙ l.invariant.by_nine) c.step_at.ensures

pub loop-step-preserved : goal.loop-step-preserved
loop-step-preserved c =
    let l = c.loop-step in let s = c.in-Some.ensures.steps in
    record {
      by_nine = s.0 ∙ l.invariant.by_nine;
      ahead = step_written c.args.input.now _ l.page _ l.invariant.ahead _ _ _ s.1.0 (s.1.1 ∙ l.invariant.by_nine) c.step_at.ensures _ c.write_step.ensures;
    }

-- ---- behind the last whole step

few : (left size : ℕ) → left < size → size ≡ step_bytes → left < step_bytes
few left size h e = omega arith

pub write_cut-requires : goal.write_cut-requires
write_cut-requires c = cut_room c.args.input.now _ _ _ c.loop-step.invariant.ahead (few _ _ c.in-None.ensures.steps.1.0 c.loop-step.invariant.by_nine) _ (c.remainder-cut.ensures ∙ c.steps-whole.ensures.cut) (sym c.if-not-is_empty.ensures)

pub returns-then-not-is_empty : goal.returns-then-not-is_empty
returns-then-not-is_empty c =
    cut_written c.args.input.now _ _ _ c.loop-step.invariant.ahead (few _ _ c.in-None.ensures.steps.1.0 c.loop-step.invariant.by_nine) _ (c.remainder-cut.ensures ∙ c.steps-whole.ensures.cut) (sym c.if-not-is_empty.ensures) _ c.write_cut.ensures

pub returns-else-not-is_empty : goal.returns-else-not-is_empty
returns-else-not-is_empty c = none_written c.args.input.now _ _ _ c.loop-step.invariant.ahead (few _ _ c.in-None.ensures.steps.1.0 c.loop-step.invariant.by_nine) _ (c.remainder-cut.ensures ∙ c.steps-whole.ensures.cut) (sym c.if-not-is_empty.ensures)
