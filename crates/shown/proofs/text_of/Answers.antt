use Rattle.std.proofs.Common.{ap, length, arith}
use Rattle.std.proofs.lemmas.Result.{err_from_is_err_and}
use Rattle.shown.proofs.Outcomes.{refused_outcome, played_headed, played_room, text_outcome}
use Rattle.shown.proofs.text_of.Goals as goal

pub returns-in_err-size : goal.returns-in_err-size
returns-in_err-size c =
    let p = err_from_is_err_and c.from_residual.result c.from_residual.ensures.1 in
    rw (p.1, p.2) (refused_outcome c.args.input.now c.args.out.now _ c.in_err-size.ensures)

pub write_text-requires : goal.write_text-requires
write_text-requires c =
    let bs = c.args.input.now in let b = c.new-page.ensures in
    let short = played_room bs c.args.out.now c.in_ok-size.size c.in_ok-size.ensures (λ k. omega (arith, c.type_inv.input k)) in
    (omega (arith, ap length b.lent, c.told-out), played_headed bs c.args.out.now c.in_ok-size.size c.in_ok-size.ensures)

pub returns : goal.returns
returns c =
    let b = c.new-page.ensures in
    text_outcome c.args.input.now c.args.out.now c.in_ok-size.size c.in_ok-size.ensures c.new-page.result _ b.none b.lent c.write_text.ensures
