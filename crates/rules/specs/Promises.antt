-- What the check promises: its whole outcome. It reads no entry: any m entries.
use Rattle.std.specs.Prelude.{◌≡◌, List, ℕ, replicate}
use Rattle.line.specs.declared.Block.{Block}
use Rattle.line.specs.declared.Head.{Head}
use Rattle.line.specs.Check.{Checked, check}
use Rattle.byvalue.specs.Lent.{line_of}

abbrev pub GivesCheck : Head → List Block → ℕ → ℕ → Checked → Type 0
GivesCheck h t n m r = r ≡ check (line_of h t n (replicate m 0))
