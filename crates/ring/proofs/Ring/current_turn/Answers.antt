-- Block i is (p - i) % nb back from P's block, and its current turn as many before P.
use Rattle.std.proofs.Common.{ℕ, ◌-◌, ap, ◌∙◌}
use Rattle.ring.proofs.Backward.{back_from}
use Rattle.ring.proofs.Ring.current_turn.Goals as goal

pub returns : goal.returns
returns c =
    let r = c.args.self in
    ap (λ (n : ℕ). r.p - n) (c.back.ensures ∙ back_from r c.args.i c.if-self-i.false c.requires)
