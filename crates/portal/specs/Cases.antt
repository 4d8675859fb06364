-- For each call a small line, the outcome that the promise allows there, and the wrong outcomes that it rules out:
-- those of a line that refuses everything, answers every step alike, changes no record, serves only the first step
-- truly or invents a count, of an opening that leaves an entry, and of a check that names the wrong place.
-- proofs/Cases.antt has the proofs, by computing.
use Rattle.std.specs.Prelude.{[], ◌∷◌, replicate}
use Rattle.words.specs.declared.Answer.TheVariants.{Put, Whole, Refused}
use Rattle.words.specs.declared.Refusal.TheVariants.{Badstep, Full, Empty}
use Rattle.book.specs.Sizes.{Size}
use Rattle.book.specs.Steps.{Step}
use Rattle.line.specs.Line.{Line, put_at, unused}
use Rattle.line.specs.Check.{sound, broken}
use Rattle.line.specs.Calls.{open·line, open·unfit}
use Rattle.line.specs.Survey.{Surveyed, surveyed, survey·unfit}
use Rattle.line.specs.Samples.{size, block, sixteen, fresh, started}
use Rattle.portal.specs.Promises.{lent, Opens, Steps, Orders, Checks, Surveys}

-- ---- a step: put 7 on a fresh line of 2 blocks and 2 entries

abbrev pub put7 : Step
put7 = record { code = 0; a = 7; b = 0 }

abbrev pub placed : Line
placed = lent fresh.head (block 0 1 0 0 ∷ unused ∷ []) (7 ∷ 0 ∷ 0 ∷ 0 ∷ [])

pub record StepCase : Type 0 where
  pub allowed : Steps fresh put7 (Put 7) placed
  pub not_refused : Steps fresh put7 (Refused Badstep 0) fresh → ⊥
  pub not_alike : Steps fresh put7 (Refused Empty 0) fresh → ⊥
  pub not_the_first_only : Steps fresh put7 (Put 7) fresh → ⊥
  pub not_without_a_record : Steps fresh put7 (Put 7) (lent placed.head fresh.table placed.entries) → ⊥

-- ---- an order of 1 to 5 there: four are placed

abbrev pub filled : Line
filled = lent (put_at fresh.head 1) (block 0 2 0 0 ∷ block 0 2 0 0 ∷ []) (1 ∷ 2 ∷ 3 ∷ 4 ∷ [])

pub record OrderCase : Type 0 where
  pub allowed : Orders fresh 1 5 (Refused Full 4) filled
  pub not_invented : Orders fresh 1 5 (Whole 5) filled → ⊥
  pub not_forgotten : Orders fresh 1 5 (Refused Full 4) fresh → ⊥

-- ---- opening a line of 3 blocks and 2 entries where one stands already

abbrev pub three : Size
three = size 3 2 2

abbrev pub anew : Line
anew = lent (record { nb = 3; ne = 2; t = 2; reading = 0; p = 0; k = 0; desks = sixteen [] }) (replicate 3 unused) (replicate 6 0)

pub record OpeningCase : Type 0 where
  pub allowed : Opens started three open·line anew
  pub not_refused : Opens started three open·unfit started → ⊥
  pub not_an_entry_left : Opens started three open·line (lent anew.head anew.table started.entries) → ⊥

-- ---- the check of that line with a wrong round in block 1, and in block 2, which is unused, a label finished

abbrev pub torn : Line
torn = lent started.head (block 0 2 0 0 ∷ block 5 1 0 0 ∷ block 0 0 0 1 ∷ []) started.entries

pub record CheckCase : Type 0 where
  pub allowed : Checks torn (broken 1 4)
  pub not_sound : Checks torn sound → ⊥
  pub not_the_last : Checks torn (broken 2 4) → ⊥

-- ---- the survey of that line: only block 1 can be taken from

abbrev pub seen : Surveyed
seen = surveyed (record { mask = 2; count = 1; lowest = 1 })

pub record SurveyCase : Type 0 where
  pub allowed : Surveys started seen
  pub not_invented : Surveys started (surveyed (record { mask = 2; count = 3; lowest = 1 })) → ⊥
  pub not_refused : Surveys started survey·unfit → ⊥
