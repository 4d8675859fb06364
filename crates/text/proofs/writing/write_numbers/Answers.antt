use Rattle.std.proofs.Common.{ap, ◌∙◌}
use Rattle.std.specs.Option.{unwrap_or}
use Rattle.text.proofs.Stored.{noted_room, noted_more}
use Rattle.text.proofs.writing.write_numbers.Goals as goal

pub byte-requires : goal.byte-requires
byte-requires c = noted_room _ _ _ _ c.loop-word.invariant.2 _ _ c.in-Some.ensures.steps c.requires

pub loop-word-preserved : goal.loop-word-preserved
loop-word-preserved c = (
  tt,
  tt,
  noted_more _ _ _ _ c.loop-word.invariant.2 _ _ c.in-Some.ensures.steps _ _ (c.unwrap_or.ensures ∙ ap (λ o. unwrap_or o 0) c.byte_of.ensures)
      c.byte.ensures,
)
