-- A call by value on what is lent. It takes the head, the table that was loaded, how many records were lent, and the
-- entries, which it changes in place. The head that it gives back is the new one, and its table is stored over the
-- records that were lent.
use Rattle.std.specs.Prelude.{◌≡◌, List, ℕ, length}
use Rattle.std.specs.Borrow.{MutBor}
use Rattle.std.specs.Fn.{Once}
use Rattle.line.specs.declared.Block.{Block}
use Rattle.line.specs.declared.Head.{Head}
use Rattle.line.specs.Line.{Line}
use Rattle.byvalue.specs.declared.Outcome.{Outcome}
use Rattle.table.specs.Laid.{loaded, stored}
use Rattle.portal.specs.Promises.{lent}

abbrev pub Lent : Type 0
Lent = Head × (List Block × (ℕ × (MutBor (List ℕ) × Unit {0})))

abbrev pub Back : Type 0 → Type 0
Back A = Outcome A × (MutBor (List ℕ) × Unit {0})

-- f, as it was called on the line that was lent, gave an outcome: its answer is told, and it leaves the line
pub record Lends {F A : Type 0} (call : Once F Lent (Back A)) (f : F) (before : Line) (answer : A) (after : Line) : Type 0 where
  pub outcome : Outcome A
  pub entries : MutBor (List ℕ)
  pub left : MutBor (List ℕ)
  pub same : entries.now ≡ before.entries
  pub met : call.post f (before.head, (loaded before.table, (length before.table, (entries, tt)))) (outcome, (left, tt))
  pub told : answer ≡ outcome.answer
  pub leaves : after ≡ lent outcome.head (stored before.table outcome.table) left.now
