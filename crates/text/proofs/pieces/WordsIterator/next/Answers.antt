use Rattle.std.proofs.Common.{ap, length, arith}
use Rattle.text.proofs.Words.{words_end, words_next}
use Rattle.text.proofs.pieces.WordsIterator.next.Goals as goal

pub returns-then-is_empty-clause-steps : goal.returns-then-is_empty-clause-steps
returns-then-is_empty-clause-steps c = let end = words_end _ _ c.first_word.ensures.word c.if-is_empty.ensures in (end, end)

pub returns-clause-steps : goal.returns-clause-steps
returns-clause-steps c = words_next _ _ c.first_word.ensures.word _ c.first_word.ensures.behind c.if-is_empty.ensures

pub returns-clause-goes : goal.returns-clause-goes
returns-clause-goes c =
    let next = words_next _ _ c.first_word.ensures.word _ c.first_word.ensures.behind c.if-is_empty.ensures in
    record { on = λ _. (tt, tt, omega (arith, ap length next)); keeps = tt; rests = λ _. tt }
