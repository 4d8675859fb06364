-- Any two outcomes that the promise of the check allows are equal.
use Rattle.std.proofs.Common.{◌≡◌, ℕ, List, sym, ◌∙◌}
use Rattle.line.specs.declared.Block.{Block}
use Rattle.line.specs.declared.Head.{Head}
use Rattle.line.specs.Check.{Checked}
use Rattle.rules.specs.Promises.{GivesCheck}

pub check_unique : (h : Head) (t : List Block) (n m : ℕ) (r s : Checked) → GivesCheck h t n m r → GivesCheck h t n m s → r ≡ s
check_unique h t n m r s p q = p ∙ sym q
