use Rattle.std.proofs.Common.{◌≡◌, ap, ◌∙◌, suc, length, drop, length-append, length-drop, arith}
use Rattle.std.proofs.lemmas.Slice.{between_to_end}
use Rattle.std.specs.Iterator.Adapters.{enumerate_source, enumerate_count}
use Rattle.std.specs.Slice.Iter.{chunks_exact_rest}
use Rattle.line.specs.Line.{size_of}
use Rattle.schedule.specs.Bytes.{header_bytes}
use Rattle.printing.proofs.Stores.{writes_length}
use Rattle.player.proofs.Rest.{none_played, all_played, one_cut}
use Rattle.player.proofs.Played.{step_played}
use Rattle.player.proofs.steps.play_steps.Goals as goal

pub loop-i-init : goal.loop-i-init
loop-i-init c =
    let a = c.args in let it = c.into_iter-i-iterator.result in
    let none : enumerate_count it ≡ 0 = cc (c.enumerate-i-items.ensures.count, c.into_iter-i-iterator.ensures.into_iter_gives) in
    let behind : chunks_exact_rest (enumerate_source it) ≡ drop header_bytes a.input.now =
    ap (λ s. chunks_exact_rest (enumerate_source s)) c.into_iter-i-iterator.ensures.into_iter_gives
    ∙ ap (λ s. chunks_exact_rest s) c.enumerate-i-items.ensures.source ∙ c.chunks_exact.ensures.rest
    ∙ between_to_end a.input.now header_bytes _ (omega arith) in
    record {
      by_nines = cc (c.chunks_exact.ensures.size, c.enumerate-i-items.ensures.source, c.into_iter-i-iterator.ensures.into_iter_gives);
      count = omega (arith, none, ap length behind, length-drop header_bytes a.input.now);
      room = omega (arith, none, c.requires.room);
      sound = c.requires.sound;
      left = none_played _ _ _ _ _ c.requires.header none behind;
    }

pub loop-i-preserved : goal.loop-i-preserved
loop-i-preserved c =
    let a = c.args in let l = c.loop-i in let s = c.step-went in let w = c.answer.ensures in
    let it = l.i-iterator in let n = c.in-Some.ensures.steps in
    let cut = n.0.1.0 in
    let nine = n.0.1.1 ∙ l.invariant.by_nines in
    let shorter = ap length cut ∙ length-append c.in-Some.bytes.now _ in
    let next =
    step_played (size_of a.opened) l.head l.table a.n l.entries l.invariant.sound (omega arith) a.input.now _ a.page.now (enumerate_count it)
    (chunks_exact_rest (enumerate_source it)) l.page l.invariant.left
    c.in-Some.bytes.now _ _ s.result s.new.entries _ _ cut nine c.step_at-s.ensures s.ensures (c.number_of.ensures ∙ ap suc n.1) w.writes in
    record {
      by_nines = n.0.0 ∙ l.invariant.by_nines;
      count = omega (arith, nine, shorter, n.2, l.invariant.count);
      room = omega (arith, nine, shorter, n.2, l.invariant.count, l.invariant.room, w.upper_bound, writes_length _ _ _ _ _ w.writes.writes);
      sound = next.0;
      left = rw n.2 next.1;
    }

pub returns-then-is_cut : goal.returns-then-is_cut
returns-then-is_cut c =
    let l = c.loop-i in let n = c.in-None.ensures.steps in
    one_cut _ _ _ _ _ _ _ l.invariant.left (omega (arith, n.0.1.0, l.invariant.by_nines)) _ c.is_cut.ensures _ _ c.if-is_cut.true
    (c.number_of-then-is_cut.ensures ∙ ap suc c.whole_steps.ensures) c.line.ensures.writes

pub returns-else-is_cut : goal.returns-else-is_cut
returns-else-is_cut c =
    let l = c.loop-i in let n = c.in-None.ensures.steps in
    all_played _ _ _ _ _ _ _ l.invariant.left (omega (arith, n.0.1.0, l.invariant.by_nines)) _ c.is_cut.ensures c.if-is_cut.false
    (omega (arith, l.invariant.room))
