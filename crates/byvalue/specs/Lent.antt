-- The line that a call is lent: the head, the first records of a table of 64, and the entries.
use Rattle.std.specs.Prelude.{List, ℕ, take, replicate, if◌then◌else◌}
use Rattle.book.specs.Choice.{◌≤ᵇ◌}
use Rattle.line.specs.declared.Block.{Block}
use Rattle.line.specs.declared.Head.{Head}
use Rattle.line.specs.Line.{Line, unused}

-- The table holds the lent records first. A lent count above 64 fits no line, whatever stands in it.
unfoldable pub lent_table : List Block → ℕ → List Block
lent_table t n = if n ≤ᵇ 64 then take n t else replicate n unused

abbrev pub line_of : Head → List Block → ℕ → List ℕ → Line
line_of h t n es = record { head = h; table = lent_table t n; entries = es }
