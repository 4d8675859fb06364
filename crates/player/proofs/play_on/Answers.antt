-- The tests in the paper's order: LONG, then HEADER, then the numbers.
use borrow.Author.Tests.{ltb-false}
use Rattle.std.proofs.Common.{refl, sym, ◌∙◌}
use Rattle.player.proofs.Whole.{long_plays, headed_plays, header_plays, header_there}
use Rattle.player.proofs.play_on.Goals as goal

pub returns-then-is_long : goal.returns-then-is_long
returns-then-is_long c = long_plays _ _ _ _ c.is_long.ensures c.if-is_long.true c.line.ensures.writes

pub play_opened-requires : goal.play_opened-requires
play_opened-requires c = record {
  header = header_there _ _ _ c.header.ensures c.in-Some.is;
  few = ltb-false _ _ (sym c.is_long.ensures ∙ c.if-is_long.false);
  room = c.requires;
  zeros = refl;
}

pub returns-in-Some : goal.returns-in-Some
returns-in-Some c = headed_plays _ _ _ _ c.is_long.ensures c.if-is_long.false _ c.header.ensures _ c.in-Some.is c.play_opened.ensures

pub returns-in-None : goal.returns-in-None
returns-in-None c = header_plays _ _ _ _ c.is_long.ensures c.if-is_long.false _ c.header.ensures c.in-None.is c.line-in-None.ensures.writes
