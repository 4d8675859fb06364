-- The lines that playing a schedule says. A line is a number, a word and a value: the refusal of the whole schedule, or
-- the answer of each step, numbered from 1, and CUT where the last step is cut short.
use Rattle.std.specs.Prelude.{List, [], ◌∷◌, ◌++◌, ℕ, suc, if◌then◌else◌}
use Prim.Native.String.{String}
use Rattle.words.specs.declared.Answer.{Answer}
use Rattle.words.specs.Words.{said}
use Rattle.book.specs.Sizes.{Size, fits}
use Rattle.schedule.specs.Bytes.{is_long, is_header, size_in, whole_steps, steps_of, is_cut}
use Rattle.line.specs.Line.{Line, opened}
use Rattle.line.specs.Calls.{answers}

pub record Spoken : Type 0 where
  pub number : ℕ
  pub word : String
  pub value : ℕ

-- a refusal of the whole schedule is the only line
abbrev pub only : String → List Spoken
only w = record { number = 0; word = w; value = 0 } ∷ []

-- the answer of step n, and those of steps n, n + 1, and so on
abbrev pub spoken : ℕ → Answer → Spoken
spoken n a = record { number = n; word = (said a).word; value = (said a).value }

unfoldable pub numbered : ℕ → List Answer → List Spoken
numbered n [] = []
numbered n (a ∷ rest) = spoken n a ∷ numbered (suc n) rest

-- step n is cut short
abbrev pub cut_at : ℕ → Spoken
cut_at n = record { number = n; word = "CUT"; value = 0 }

module _ (bs : List ℕ) where
  -- a step cut short comes last, under the next number
  unfoldable pub cut_short : List Spoken
  cut_short = if is_cut bs then cut_at (suc (whole_steps bs)) ∷ [] else []

  -- what is said of the steps, on line l
  unfoldable pub run : Line → List Spoken
  run l = numbered 1 (answers l (steps_of bs)) ++ cut_short

  -- what is said of a schedule that has its header, with the numbers of z
  unfoldable pub played_with : Size → List Spoken
  played_with z = if fits z then run (opened z) else only "UNFIT"

  unfoldable pub played : List Spoken
  played =
      if is_long bs then only "LONG"
      else if is_header bs then played_with (size_in bs)
      else only "HEADER"
