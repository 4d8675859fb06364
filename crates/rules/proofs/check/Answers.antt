-- UNFIT, or what the head's rules say, or those of the first block of which one is broken.
use Rattle.std.proofs.Common.{◌≡◌, ◌+◌, length, length-take, sym, ap, ◌∙◌, arith, rules}
use Rattle.std.proofs.lemmas.Result.{err_from_is_err_and}
use Rattle.book.specs.Sizes.{Size}
use Rattle.line.specs.Tests.{fitting}
use Rattle.line.specs.Check.{Checked}
use Rattle.rules.proofs.First.{Fitted, is_unfit, is_fit, after, blocks_from, head_first, head_sound, block_said, no_more}
use Rattle.rules.proofs.check.Goals as goal
use Rattle.rules.proofs.check.Goals.{Else-not-fits, After-block_rules}

-- the numbers fit
fitted : (c : Else-not-fits) → Fitted c.args.h c.args.table c.args.n c.args.m
fitted c = is_fit c.args.h c.args.table c.args.n c.args.m (search rules) _ (c.fits.ensures ∙ ap (λ (z : Size). fitting z c.args.n c.args.m) c.size.ensures) c.if-not-fits.false

pub returns-then-not-fits : goal.returns-then-not-fits
returns-then-not-fits c = is_unfit c.args.h c.args.table c.args.n c.args.m (search rules) _ (c.fits.ensures ∙ ap (λ (z : Size). fitting z c.args.n c.args.m) c.size.ensures) c.if-not-fits.true

pub new-ring-requires : goal.new-ring-requires
new-ring-requires c =
    let v = (fitted (goal.at.new-ring-requires c).Else-not-fits).limits in
    (omega (arith, c.from.ensures, v.nb), omega (arith, c.from.ensures, v.nb_most))

-- ---- the head

pub returns-in_err-head_rules : goal.returns-in_err-head_rules
returns-in_err-head_rules c =
    let f = fitted (goal.at.returns-in_err-head_rules c).Else-not-fits in let p = err_from_is_err_and c.from_residual.result c.from_residual.ensures.1 in
    let later = blocks_from c.args.h c.args.table 0 in
    rw (p.1, p.2) (sym (f.order ∙ head_first _ _ f.limits ∙ ap (λ (r : Checked). after r later) (sym c.in_err-head_rules.ensures)))

pub loop-i-init : goal.loop-i-init
loop-i-init c =
    let f = fitted (goal.at.loop-i-init c).Else-not-fits in
    let later = blocks_from c.args.h c.args.table 0 in
    f.order ∙ head_first _ _ f.limits ∙ ap (λ (r : Checked). after r later) (sym c.in_ok-head_rules.ensures)

-- ---- block i

-- what its rules said, and then those of the blocks above it
said : (c : After-block_rules) → Fitted c.args.h c.args.table c.args.n c.args.m
    → blocks_from c.args.h c.args.table c.loop-i.i ≡ after c.block_rules.result (blocks_from c.args.h c.args.table (c.loop-i.i + 1))
said c f =
    let n = c.args.n in
    block_said c.args.h c.args.table f.limits c.new-ring.result c.held_turns-turns.result n c.loop-i.i c.block_rules.result
    (omega (arith, c.new-ring.ensures, c.from.ensures)) (omega (arith, c.new-ring.ensures)) c.held_turns-turns.ensures f.same (omega (arith, length-take n c.args.table))
    (head_sound c.args.h c.args.table c.in_ok-head_rules.ensures) c.block_rules.ensures

pub returns-in_err-block_rules : goal.returns-in_err-block_rules
returns-in_err-block_rules c =
    let at = goal.at.returns-in_err-block_rules c in
    let p = err_from_is_err_and c.from_residual-in_err-block_rules.result c.from_residual-in_err-block_rules.ensures.1 in
    let later = blocks_from c.args.h c.args.table (c.loop-i.i + 1) in
    rw (p.1, p.2) (sym (c.loop-i.invariant ∙ said at.After-block_rules (fitted at.Else-not-fits) ∙ ap (λ (r : Checked). after r later) c.in_err-block_rules.was))

pub loop-i-preserved : goal.loop-i-preserved
loop-i-preserved c =
    let at = goal.at.loop-i-preserved c in let later = blocks_from c.args.h c.args.table (c.loop-i.i + 1) in
    c.loop-i.invariant ∙ said at.After-block_rules (fitted at.Else-not-fits) ∙ ap (λ (r : Checked). after r later) c.in_ok-block_rules.was

pub returns : goal.returns
returns c =
    let f = fitted (goal.at.returns c).Else-not-fits in let full : length c.args.table ≡ 64 = search rules in
    sym (c.loop-i.invariant ∙ no_more _ _ _ (omega (arith, length-take c.args.n c.args.table, f.same, f.limits)))
