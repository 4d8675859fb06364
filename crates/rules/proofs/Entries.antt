-- The check reads no entry: of the entries only their number matters.
use Rattle.std.proofs.Common.{◌≡◌, ℕ, List, length, replicate, ◌∙◌}
use Rattle.std.proofs.Math.ListN.{length-replicate}
use Rattle.line.specs.declared.Block.{Block}
use Rattle.line.specs.declared.Head.{Head}
use Rattle.line.specs.Check.{Checked, check}
use Rattle.line.specs.Demands.{CheckUnread}
use Rattle.line.proofs.Unread.{check_unread}
use Rattle.byvalue.specs.Lent.{line_of}
use Rattle.rules.specs.Promises.{GivesCheck}

-- what the check promises of any m entries holds of the m that were lent
pub lent_checked : (h : Head) (t : List Block) (n : ℕ) (es : List ℕ) (r : Checked) → GivesCheck h t n (length es) r → r ≡ check (line_of h t n es)
unfolding CheckUnread
lent_checked h t n es r p = p ∙ check_unread (line_of h t n es) (replicate (length es) 0) (length-replicate (length es) 0)
