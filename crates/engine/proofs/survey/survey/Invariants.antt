-- The mask of the blocks below i.
use Rattle.std.proofs.Common.{◌≡◌}
use Rattle.engine.proofs.Mask.{mask_below}
use Rattle.engine.proofs.Surveying.{bit_at}
use Rattle.engine.proofs.survey.survey.Given as goal

abbrev pub invariant-loop-i : goal.invariant-loop-i
invariant-loop-i l = l.mask ≡ mask_below (bit_at l.fn.h.nb l.fn.h.p l.fn.h.k l.c-items) l.i
