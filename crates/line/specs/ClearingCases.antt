-- The run that clears a line, once a desk has claimed and another has fetched: NB 2, NE 2, and so five gets.
use Rattle.std.specs.Prelude.{◌≡◌, [], ◌∷◌}
use Rattle.book.specs.Sizes.{sized}
use Rattle.book.specs.Messages.{get, order, claim, fetch, finish, look}
use Rattle.line.specs.Line.{opened}
use Rattle.line.specs.Calls.{after}
use Rattle.line.specs.Clearing.{clearing}

unfoldable pub ClearingCases : Type 0
ClearingCases =
    clearing (after (opened (sized 2 2 3)) (order 1 4 ∷ look 1 1 ∷ claim 1 ∷ fetch 1 ∷ look 2 1 ∷ claim 2 ∷ []))
    ≡ finish 1 ∷ fetch 2 ∷ finish 2 ∷ get ∷ get ∷ get ∷ get ∷ get ∷ []
