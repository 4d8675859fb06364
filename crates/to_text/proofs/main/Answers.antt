-- The text lies within its room.
use Rattle.std.proofs.Common.{sym}
use Rattle.std.proofs.lemmas.List.{length-take-le}
use Rattle.shown.proofs.Outcomes.{text_room}
use Rattle.to_text.proofs.main.Goals as goal

pub slice_bounds-out-end : goal.slice_bounds-out-end
slice_bounds-out-end c = text_room _ _ _ _ _ c.text_of.ensures c.in-Ok.is

pub slice_bounds-write_all-end : goal.slice_bounds-write_all-end
slice_bounds-write_all-end c = sym (length-take-le _ _ (text_room _ _ _ _ _ c.text_of.ensures c.in-Ok.is))
