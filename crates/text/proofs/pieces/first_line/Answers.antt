-- Up to the newline, without a carriage return at its end.
use Rattle.std.proofs.Common.{rules, ap, ◌∙◌, Bor, List, ℕ}
use borrow.Author.Tests.{tests}
use Rattle.std.proofs.lemmas.Iterator.{YieldsList-from_slice}
use Rattle.std.proofs.lemmas.Iterator.Search.{position_from_yields_List}
use Rattle.text.proofs.Places.{place}
use Rattle.text.specs.Pieces.{bare}
use Rattle.text.proofs.FirstLine.{is_end, behind_end, behind_more, line_found}
use Rattle.text.proofs.pieces.first_line.Goals as goal
use Rattle.text.proofs.pieces.first_line.Goals.{in-empty, in-len1-up}

pub returns : goal.returns
returns c =
    let t = c.args.text.now in
    let found = position_from_yields_List is_end _ _ c.position.result c.position.ensures.ran (YieldsList-from_slice t cc) (λ x b q k. search (rules, tests)) in
    line_found t _ _ _ c.requires (place is_end t _ _ found c.unwrap_or-end.ensures) (c.bare.ensures ∙ ap bare c.split_at.ensures.front)
    (elim c.if-rest-lt1.branch [
      | in-empty w ↦ ap (λ (x : Bor (List ℕ)). x.now) w.behind-is ∙ behind_end _ t _ c.split_at.ensures.back w.in-empty.len_below
      | in-len1-up w ↦ ap (λ (x : Bor (List ℕ)). x.now) w.behind-is ∙ behind_more _ t _ c.split_at.ensures.back
    ])
