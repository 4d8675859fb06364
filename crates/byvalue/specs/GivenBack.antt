-- What a call gives back: the answer, the head, the table of 64 records and the entries. And what it is to give
-- back of an outcome on the line that was lent: the lent records stand in front of the others.
use Rattle.std.specs.Prelude.{List, ◌++◌, ℕ, drop, if◌then◌else◌}
use Rattle.words.specs.declared.Answer.{Answer}
use Rattle.book.specs.Choice.{◌≤ᵇ◌}
use Rattle.line.specs.declared.Block.{Block}
use Rattle.line.specs.declared.Head.{Head}
use Rattle.line.specs.Line.{Line, Outcome}
use Rattle.line.specs.Calls.{Opening, Opened}
use Rattle.byvalue.specs.declared.Outcome.{Outcome as OutcomeByValue}

-- the lent records put back in front of the others
unfoldable pub put_back : List Block → ℕ → List Block → List Block
put_back t n lent = if n ≤ᵇ 64 then lent ++ drop n t else t

-- what a call gives, whose answers are of A
pub record Given (A : Type 0) : Type 0 where
  pub answer : A
  pub head : Head
  pub table : List Block
  pub entries : List ℕ

abbrev pub given : {A : Type 0} → A → Head → List Block → List ℕ → Given A
given a h t es = record { answer = a; head = h; table = t; entries = es }

abbrev pub line_back : {A : Type 0} → List Block → ℕ → Line → A → Given A
line_back t n l a = given a l.head (put_back t n l.table) l.entries

abbrev pub given_back : {A : Type 0} → OutcomeByValue A → List ℕ → Given A
given_back r es = given r.answer r.head r.table es

-- ---- what the line's definitions give, on the line that was lent: of a step or an order, and of opening

abbrev pub back_of : List Block → ℕ → Outcome → Given Answer
back_of t n o = line_back t n o.line o.answer

abbrev pub began : List Block → ℕ → Opened → Given Opening
began t n o = line_back t n o.line o.answer
