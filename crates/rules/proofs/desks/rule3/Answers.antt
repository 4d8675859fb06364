use Rattle.std.proofs.Common.{◌≡◌, Bool, true, ◌&&◌, List, ℕ, ◌%◌, get_or, ap, ◌∙◌, arith}
use Rattle.book.specs.Choice.{◌≤ᵇ◌}
use Rattle.line.specs.declared.Block.{Block}
use Rattle.line.specs.declared.Desk.{Desk}
use Rattle.line.specs.declared.Head.{Head}
use Rattle.line.specs.Line.{unused, size_of, desk_of, record_of}
use Rattle.line.specs.Tests.{desk_obeys, is_recent}
use Rattle.ring.specs.declared.Ring.{Ring}
use Rattle.rules.proofs.Plain.{obeyed, free, obeyed_at, obeyed_idle, free_idle, rule3_broken, rule3_pairs}
use Rattle.rules.proofs.Stages.{stray}
use Rattle.rules.proofs.Walks.{at, rest_past, rest_broken, rest_stray, rest_end}
use Rattle.rules.proofs.desks.rule3.Goals as goal

-- an idle desk
pub loop-d-preserved-then-x-eq0 : goal.loop-d-preserved-then-x-eq0
loop-d-preserved-then-x-eq0 c =
    let h = c.args.h.now in let here = record_of (size_of h) c.args.table.now in let f = obeyed h.nb h.ne h.p here in
    let x = at h.desks c.loop-d.d in let idle = c.if-x-eq0.true in
    c.loop-d.invariant ∙ rest_past f free h.desks h.t c.loop-d.d (omega arith) (obeyed_idle h.nb h.ne h.p here x idle) (λ k. free_idle x idle)

-- one that is not, from place T on
pub returns-then-t-d : goal.returns-then-t-d
returns-then-t-d c =
    let h = c.args.h.now in let here = record_of (size_of h) c.args.table.now in let f = obeyed h.nb h.ne h.p here in
    let x = at h.desks c.loop-d.d in let e = stray (desk_obeys h.nb h.ne h.p (here x.turn)) x c.if-x-eq0.false in
    rule3_broken _ _ _ _ (c.loop-d.invariant ∙ rest_stray f free h.desks h.t c.loop-d.d (omega arith) (omega (arith, c.from-t.ensures)) e)

-- what the rule says of a desk, with the record of its turn's block
ruled : (h : Head) (table : List Block) (ring : Ring) (x : Desk) (at : ℕ) (r : Bool) → (ring.nb ≡ h.nb) × (ring.p ≡ h.p)
    → (is_recent ring.nb ring.p x.turn ≡ true → at ≡ x.turn % ring.nb)
    → r ≡ (x.stage ≤ᵇ 3 && desk_obeys ring.nb h.ne ring.p (get_or table at unused) (desk_of x)) → obeyed h.nb h.ne h.p (record_of (size_of h) table) x ≡ r
unfolding record_of
ruled h table ring x at r same k e =
    obeyed_at h.nb h.ne h.p (record_of (size_of h) table) x (get_or table at unused) r
    (λ s. ap (λ (n : ℕ). get_or table n unused) (rw same.0 at (k (rw (same.0, same.1) s)))) (rw (same.0, same.1) at e)

pub returns-then-not-desk_rule : goal.returns-then-not-desk_rule
returns-then-not-desk_rule c =
    let h = c.args.h.now in let f = obeyed h.nb h.ne h.p (record_of (size_of h) c.args.table.now) in
    let e = ruled h c.args.table.now c.args.ring (at h.desks c.loop-d.d) _ _ c.requires c.current_block.ensures.1 c.desk_rule.ensures in
    rule3_broken _ _ _ _ (c.loop-d.invariant ∙ rest_broken f free h.desks h.t c.loop-d.d (omega arith) (e ∙ c.if-not-desk_rule.true))

-- a desk that obeys the rule, below place T
pub loop-d-preserved : goal.loop-d-preserved
loop-d-preserved c =
    let h = c.args.h.now in let f = obeyed h.nb h.ne h.p (record_of (size_of h) c.args.table.now) in
    let e = ruled h c.args.table.now c.args.ring (at h.desks c.loop-d.d) _ _ c.requires c.current_block.ensures.1 c.desk_rule.ensures in
    c.loop-d.invariant ∙ rest_past f free h.desks h.t c.loop-d.d (omega arith) (e ∙ c.if-not-desk_rule.false) (λ k. absurd (omega (arith, c.from-t.ensures)))

pub returns : goal.returns
returns c =
    let h = c.args.h.now in let f = obeyed h.nb h.ne h.p (record_of (size_of h) c.args.table.now) in
    rule3_pairs _ _ _ _ _ (c.loop-d.invariant ∙ rest_end f free h.desks h.t c.loop-d.d (omega arith)) c.any_clash.ensures
