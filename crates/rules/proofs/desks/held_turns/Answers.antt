use Rattle.std.proofs.Common.{map, sym, ◌∙◌, arith}
use Rattle.std.proofs.lemmas.Grind.{same_number_lists}
use Rattle.std.proofs.lemmas.List.{get_or-map, length-map}
use Rattle.book.specs.Steps.{idle}
use Rattle.line.specs.Line.{numbers_of}
use Rattle.rules.specs.Holders.{held_turn}
use Rattle.rules.proofs.desks.held_turns.Goals as goal

pub returns : goal.returns
returns c =
    let desks = c.args.desks.now in
    same_number_lists _ (map held_turn desks) (omega (arith, length-map desks held_turn))
    (λ k h. c.loop-i.invariant k (omega arith) ∙ sym (get_or-map held_turn desks k (numbers_of idle) 0 (omega arith)))
