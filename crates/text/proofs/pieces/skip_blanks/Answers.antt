-- Up to the first byte that is no blank.
use Rattle.std.proofs.Common.{rules, ◌≡◌, drop, ap, ◌∙◌}
use borrow.Author.Tests.{tests}
use Rattle.std.specs.List.{position_or_len}
use Rattle.std.proofs.lemmas.List.{take_rest}
use Rattle.std.proofs.lemmas.Iterator.{YieldsList-from_slice}
use Rattle.std.proofs.lemmas.Iterator.Search.{position_from_yields_List}
use Rattle.text.specs.Pieces.{is_letter, skip}
use Rattle.text.proofs.Places.{place}
use Rattle.text.proofs.pieces.skip_blanks.Goals as goal

pub returns : goal.returns
unfolding skip
returns c =
    let found = position_from_yields_List is_letter _ _ c.position.result c.position.ensures.ran (YieldsList-from_slice c.args.line.now cc) (λ x b q k. search (rules, tests)) in
    let start : c.unwrap_or-start.result ≡ position_or_len is_letter c.args.line.now = place is_letter c.args.line.now _ _ found c.unwrap_or-start.ensures in
    take_rest c.args.line.now c.unwrap_or-start.result ∙ ap (λ n. drop n c.args.line.now) start
