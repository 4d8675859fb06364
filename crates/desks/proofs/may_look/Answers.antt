-- Each answer rewrites with the tests that led there.
use Rattle.std.proofs.Common.{sym}
use borrow.Author.Tests.{le-leb, lt-leb, eq-eqb, ne_eqb}
use Rattle.book.specs.Sizes.{current_turn, is_owned}
use Rattle.book.specs.Verdicts.{lookable}
use Rattle.desks.proofs.may_look.Goals as goal

pub returns-then-ring-i : goal.returns-then-ring-i
unfolding lookable is_owned current_turn
returns-then-ring-i c = simp (lt-leb _ _ c.if-ring-i.true)

pub returns-then-current_turn-k : goal.returns-then-current_turn-k
unfolding lookable is_owned current_turn
returns-then-current_turn-k c =
    simp (sym c.current_turn.ensures, le-leb _ _ c.if-ring-i.false, le-leb _ _ c.if-current_turn-k.true)

pub returns-then-c : goal.returns-then-c
unfolding lookable is_owned current_turn
returns-then-c c =
    simp (sym c.current_turn.ensures, le-leb _ _ c.if-ring-i.false, lt-leb _ _ c.if-current_turn-k.false, eq-eqb _ _ c.if-c.true)

pub returns : goal.returns
unfolding lookable is_owned current_turn
returns c =
    simp (sym c.current_turn.ensures, le-leb _ _ c.if-ring-i.false, lt-leb _ _ c.if-current_turn-k.false, ne_eqb _ _ c.if-c.false)
