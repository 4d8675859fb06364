-- What a caller gets: opening, a step, an order. UNFIT and DAMAGED are tested before anything else is read.
use Rattle.std.specs.Prelude.{List, [], ◌∷◌, ℕ, if◌then◌else◌, Result, Ok, Err}
use Rattle.words.specs.declared.Answer.{Answer}
use Rattle.words.specs.declared.Refusal.{Refusal}
use Rattle.words.specs.declared.Refusal.TheVariants.{Unfit}
use Rattle.book.specs.Sizes.{Size}
use Rattle.book.specs.Steps.{Step, decode}
use Rattle.book.specs.Verdicts.{Verdict, takes, refuses, judge}
use Rattle.line.specs.Line.{Line, Outcome, size_of, refuse, order_step, does, opened}
use Rattle.line.specs.Check.{Checked, refusal_of, fit, check}

-- ---- opening

-- a line is open, or opening is refused
abbrev pub Opening : Type 0
Opening = Result Unit Refusal

abbrev pub open·line : Opening
open·line = Ok tt

abbrev pub open·unfit : Opening
open·unfit = Err Unfit

pub record Opened : Type 0 where
  pub line : Line
  pub answer : Opening

unfoldable pub opens : Line → Size → Opened
opens l z =
    if fit z l.table l.entries then record { line = opened z; answer = open·line }
    else record { line = l; answer = open·unfit }

-- ---- a step, an order, and runs of steps

abbrev pub passes : Checked → Verdict
passes (Ok u) = takes
passes (Err f) = refuses (refusal_of f)

unfoldable pub step : Line → Step → Outcome
step l s = judge (passes (check l)) (does (size_of l.head) l (decode s)) (refuse l)

unfoldable pub orders : Line → ℕ → ℕ → Outcome
orders l a e = judge (passes (check l)) (order_step (size_of l.head) l a e) (refuse l)

unfoldable pub answers : Line → List Step → List Answer
answers l [] = []
answers l (s ∷ ss) = (step l s).answer ∷ answers (step l s).line ss

unfoldable pub after : Line → List Step → Line
after l [] = l
after l (s ∷ ss) = after (step l s).line ss
