-- The bytes lie within their room.
use Rattle.std.proofs.Common.{sym, length-take-le}
use Rattle.text.proofs.Whole.{made_room}
use Rattle.to_bytes.proofs.main.Goals as goal

pub slice_bounds-write_all-end : goal.slice_bounds-write_all-end
slice_bounds-write_all-end c = sym (length-take-le _ _ (made_room _ _ _ _ _ c.bytes_of.ensures c.in-Ok.is))
