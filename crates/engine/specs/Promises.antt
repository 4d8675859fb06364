-- What each public call promises: its whole outcome, the answer with head, table and entries afterwards, refusals
-- included.
use Rattle.std.specs.Prelude.{◌≡◌, List, ℕ, replicate}
use Rattle.words.specs.declared.Answer.{Answer}
use Rattle.book.specs.Sizes.{Size}
use Rattle.book.specs.Steps.{Step}
use Rattle.book.specs.declared.Deed.{Deed}
use Rattle.book.specs.Verdicts.{judge}
use Rattle.line.specs.declared.Block.{Block}
use Rattle.line.specs.declared.Head.{Head}
use Rattle.line.specs.Line.{size_of, does, refuse}
use Rattle.line.specs.Check.{check}
use Rattle.line.specs.Calls.{Opening, passes, opens, step, orders}
use Rattle.line.specs.Survey.{Surveyed, survey}
use Rattle.byvalue.specs.declared.Outcome.{Outcome as OutcomeByValue}
use Rattle.byvalue.specs.Lent.{line_of}
use Rattle.byvalue.specs.GivenBack.{given_back, back_of, began}

module _ (h : Head) (t : List Block) (n : ℕ) where
  abbrev pub GivesOpening : List ℕ → Size → OutcomeByValue Opening → List ℕ → Type 0
  GivesOpening es z r after = given_back r after ≡ began t n (opens (line_of h t n es) z)

  -- a deed: the check first
  abbrev pub GivesDeed : List ℕ → Deed → OutcomeByValue Answer → List ℕ → Type 0
  GivesDeed es d r after =
      let l = line_of h t n es in given_back r after ≡ back_of t n (judge (passes (check l)) (does (size_of h) l d) (refuse l))

  abbrev pub GivesStep : List ℕ → Step → OutcomeByValue Answer → List ℕ → Type 0
  GivesStep es s r after = given_back r after ≡ back_of t n (step (line_of h t n es) s)

  abbrev pub GivesOrder : List ℕ → ℕ → ℕ → OutcomeByValue Answer → List ℕ → Type 0
  GivesOrder es a e r after = given_back r after ≡ back_of t n (orders (line_of h t n es) a e)

  -- the survey reads no entry: any m entries
  abbrev pub GivesSurvey : ℕ → Surveyed → Type 0
  GivesSurvey m r = r ≡ survey (line_of h t n (replicate m 0))
