-- What each call promises: its whole outcome, refusals included, as one equation with the definitions of the line. What
-- was lent is a line, and so is what is there afterwards; `check` and `survey` change nothing. An answer is told by
-- what it says: its number and its values. No two answers say the same, so the equation fixes the answer too:
-- proofs/Apart.antt.
use Rattle.std.specs.Prelude.{◌≡◌, List, ℕ}
use Rattle.words.specs.declared.Answer.{Answer}
use Rattle.words.specs.Words.{Said, said}
use Rattle.book.specs.Sizes.{Size}
use Rattle.book.specs.Steps.{Step}
use Rattle.line.specs.declared.Block.{Block}
use Rattle.line.specs.declared.Head.{Head}
use Rattle.line.specs.Line.{Line, Outcome}
use Rattle.line.specs.Check.{Checked, check}
use Rattle.line.specs.Calls.{Opening, Opened, opens, step, orders}
use Rattle.line.specs.Numbers.{OpeningSaid, opening_said, check_said, survey_said}
use Rattle.line.specs.Survey.{Surveyed, survey}

-- what is lent, at any lengths: head, table and entries
abbrev pub lent : Head → List Block → List ℕ → Line
lent h t es = record { head = h; table = t; entries = es }

-- the numbers of a call
abbrev pub the_size : ℕ → ℕ → ℕ → Size
the_size nb ne t = record { nb = nb; ne = ne; t = t }

abbrev pub the_step : ℕ → ℕ → ℕ → Step
the_step code a b = record { code = code; a = a; b = b }

-- what is told of a call that may change the line: the line afterwards, and what its answer says
pub record Told : Type 0 where
  pub line : Line
  pub said : Said

abbrev pub told : Outcome → Told
told o = record { line = o.line; said = said o.answer }

pub record ToldOpening : Type 0 where
  pub line : Line
  pub said : OpeningSaid

abbrev pub told_opening : Opened → ToldOpening
told_opening o = record { line = o.line; said = opening_said o.answer }

abbrev pub Opens : Line → Size → Opening → Line → Type 0
Opens l z r m = record { line = m; said = opening_said r } ≡ told_opening (opens l z)

abbrev pub Steps : Line → Step → Answer → Line → Type 0
Steps l s r m = record { line = m; said = said r } ≡ told (step l s)

abbrev pub Orders : Line → ℕ → ℕ → Answer → Line → Type 0
Orders l first last r m = record { line = m; said = said r } ≡ told (orders l first last)

abbrev pub Checks : Line → Checked → Type 0
Checks l r = check_said r ≡ check_said (check l)

abbrev pub Surveys : Line → Surveyed → Type 0
Surveys l r = survey_said r ≡ survey_said (survey l)
