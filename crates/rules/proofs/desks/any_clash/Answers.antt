use Rattle.std.proofs.Common.{◌+◌, drop, not, sym, ap, ◌∙◌, arith}
use Rattle.line.specs.Line.{desk_of}
use Rattle.rules.proofs.Stages.{free}
use Rattle.rules.proofs.Walks.{at, pair_past, pair_here, pair_end, desk_past, desk_here, desk_end}
use Rattle.rules.proofs.desks.any_clash.Goals as goal

-- desk i holds nothing
pub pairs-preserved-then-not-is_holding : goal.pairs-preserved-then-not-is_holding
pairs-preserved-then-not-is_holding c =
    let ds = c.args.desks.now in let i = c.pairs.i in let v = c.pairs.invariant in record {
      none = v.none;
      rest = v.rest ∙ desk_past ds i (omega arith) (free (at ds i) (drop (i + 1) ds) _ c.is_holding.ensures c.if-not-is_holding.true);
    }

pub loop-b-preserved : goal.loop-b-preserved
loop-b-preserved c =
    let v = c.loop-b.invariant in record {
      none = v.none;
      items = v.items;
      rest = v.rest ∙ pair_past _ (desk_of (at c.args.desks.now c.pairs.i)) c.loop-b.b-index c.loop-b-test.true (sym c.clash.ensures ∙ c.if-clash.false);
    }

-- desk i clashes with none
pub pairs-preserved : goal.pairs-preserved
pairs-preserved c =
    let ds = c.args.desks.now in let i = c.pairs.i in let v = c.pairs.invariant in let w = c.loop-b.invariant in record {
      none = w.none;
      rest = v.rest ∙ desk_past ds i (omega arith) (rw (← w.items) (w.rest ∙ pair_end _ (desk_of (at ds i)) c.loop-b.b-index c.loop-b-test.false));
    }

pub returns-after-pairs : goal.returns-after-pairs
returns-after-pairs c = let v = c.pairs.invariant in v.rest ∙ desk_end c.args.desks.now c.pairs.i (omega arith) ∙ ap not (sym v.none)

pub returns-then-clash : goal.returns-then-clash
returns-then-clash c =
    let ds = c.args.desks.now in let i = c.pairs.i in let w = c.loop-b.invariant in
    c.pairs.invariant.rest
    ∙ desk_here ds i (omega arith) (rw (← w.items) (w.rest ∙ pair_here _ (desk_of (at ds i)) c.loop-b.b-index c.loop-b-test.true (sym c.clash.ensures ∙ c.if-clash.true)))
