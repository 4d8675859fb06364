-- Labels come out in the order they went in: what the book's order (book/specs/Order.antt) says of the line's own answers.
-- proofs/FirstOut.antt has a proof of each statement, under the same name in small letters.
use Rattle.std.specs.Prelude.{◌≡◌, T, List, take}
use mathlib.Core.List.{Sublistᴰ as Sublist}
use Rattle.book.specs.Sizes.{Size, fits}
use Rattle.book.specs.Steps.{Step}
use Rattle.book.specs.Counts.{got, won, handed}
use Rattle.book.specs.Order.{got_labels, placed_labels}
use Rattle.line.specs.Line.{opened}
use Rattle.line.specs.Calls.{answers}

-- where no claim is won, the labels that come out are the first that went in, in order
unfoldable pub LineFirstInFirstOut : Type 0
LineFirstInFirstOut =
    (z : Size) (ss : List Step) → T (fits z)
    → let l = answers (opened z) ss in
    won l ≡ 0 → handed l ≡ take (got l) (placed_labels ss l)

-- whatever is claimed, the labels that gets hand over are labels that went in, in order, with others left out
unfoldable pub LineGotInOrder : Type 0
LineGotInOrder = (z : Size) (ss : List Step) → T (fits z) → let l = answers (opened z) ss in Sublist (got_labels ss l) (placed_labels ss l)
