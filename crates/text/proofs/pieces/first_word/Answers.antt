-- Up to the first blank behind the blanks at the front.
use Rattle.std.proofs.Common.{rules, ◌≡◌, take, drop, ap, ◌∙◌}
use borrow.Author.Tests.{tests}
use Rattle.std.specs.List.{position_or_len}
use Rattle.std.proofs.lemmas.Iterator.{YieldsList-from_slice}
use Rattle.std.proofs.lemmas.Iterator.Search.{position_from_yields_List}
use Rattle.text.specs.Pieces.{is_blank, word, behind}
use Rattle.text.proofs.Places.{place}
use Rattle.text.proofs.pieces.first_word.Goals as goal
use Rattle.text.proofs.pieces.first_word.Goals.{After-split_at}

found : (c : After-split_at) → c.unwrap_or-end.result ≡ position_or_len is_blank c.skip_blanks-line.result.now
found c =
    let l = c.skip_blanks-line.result.now in
    place is_blank l _ _
    (position_from_yields_List is_blank _ _ c.position.result c.position.ensures.ran (YieldsList-from_slice l cc) (λ x b q k. search (rules, tests)))
    c.unwrap_or-end.ensures

pub returns-clause-word : goal.returns-clause-word
unfolding word
returns-clause-word c =
    c.split_at.ensures.front ∙ ap (λ n. take n c.skip_blanks-line.result.now) (found c)
    ∙ ap (λ l. take (position_or_len is_blank l) l) c.skip_blanks-line.ensures

pub returns-clause-behind : goal.returns-clause-behind
unfolding behind
returns-clause-behind c =
    c.split_at.ensures.back ∙ ap (λ n. drop n c.skip_blanks-line.result.now) (found c)
    ∙ ap (λ l. drop (position_or_len is_blank l) l) c.skip_blanks-line.ensures
