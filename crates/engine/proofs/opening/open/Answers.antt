-- The laws of proofs/Openings.antt, at what the test of the lengths said.
use Rattle.std.proofs.Common.{rules}
use Rattle.engine.proofs.Openings.{open_unfit, lent_few, lent_all, open_fits}
use Rattle.engine.proofs.opening.open.Goals as goal

pub slice_bounds-records-end : goal.slice_bounds-records-end
slice_bounds-records-end c = lent_few _ _ _ _ (search rules) _ c.fits.ensures c.if-not-fits.false

pub slice_bounds-fill-end : goal.slice_bounds-fill-end
slice_bounds-fill-end c = lent_all _ _ _ _ (search rules) _ c.fits.ensures c.if-not-fits.false

pub returns : goal.returns
returns c =
    open_fits _ _ _ _ (search rules) _ c.fits.ensures c.if-not-fits.false _ _ _ _ _ c.fresh-head.ensures (c.fill.ensures.after (λ y e. e))
    c.unused.ensures (c.fill-2.ensures.after (λ y e. e))

pub returns-then-not-fits : goal.returns-then-not-fits
returns-then-not-fits c = open_unfit _ _ _ _ (search rules) _ c.fits.ensures _ c.if-not-fits.true
