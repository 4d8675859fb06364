use Rattle.std.proofs.Common.{rules, refl, is_some}
use borrow.Author.Tests.{tests}
use Rattle.std.proofs.lemmas.Iterator.Consumers.{YieldsList-from_first}
use Rattle.std.proofs.lemmas.Iterator.Search.{all_from_yields_List}
use Rattle.text.specs.declared.pieces.Words.{Words}
use Rattle.text.specs.Pieces.{words, byte}
use Rattle.text.proofs.items.all_bytes.Goals as goal

pub returns : goal.returns
returns c =
    all_from_yields_List (λ w. is_some (byte w)) c.all.new.self _ c.all.result c.all.ensures.ran
    (YieldsList-from_first (λ x. x.now) (λ (s : Words). words s.0.now) {s = record { 0 = c.args.line }} (words c.args.line.now) refl)
    (λ x b q k. search (rules, tests))
