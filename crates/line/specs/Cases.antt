-- Runs and what they answer; the line that a run leads to; single steps and orders with the line that they leave and the
-- answer; surveys; openings. On the line itself, with the check before each step. proofs/Cases.antt computes them.
use Rattle.std.specs.Prelude.{◌≡◌, List, [], ◌∷◌, ◌++◌, map, ℕ}
use Rattle.words.specs.declared.Answer.{Answer}
use Rattle.words.specs.declared.Answer.TheVariants.{Put, Got, Took, Whole, Seen, Claimed, Done, Refused}
use Rattle.words.specs.declared.Refusal.TheVariants.{Unfit, Damaged, Badstep, Nodesk, Noblock, Stage, Owned, Nothing}
use Rattle.words.specs.declared.Refusal.TheVariants.{Lost, Notlabel, Range, Worn, Full, Busy, Empty}
use Rattle.book.specs.Sizes.{Size}
use Rattle.book.specs.Steps.{Step, idle, looked}
use Rattle.book.specs.Messages.{raw, put, get, order, claim, fetch, finish, look}
use Rattle.book.specs.Cases.{Exchange, ◌⇒◌}
use Rattle.line.specs.Line.{Line, Outcome, says, numbers_of, opened}
use Rattle.line.specs.Calls.{Opened, open·line, open·unfit, opens, step, orders, answers, after}
use Rattle.line.specs.Check.{sound, unfit, broken}
use Rattle.line.specs.Numbers.{opening_said, check_said, survey_said}
use Rattle.line.specs.Survey.{Surveyed, surveyed, survey·unfit, survey·damaged, survey}
use Rattle.line.specs.Samples.{claimed, fetched, size, spot, fresh, started, middle, read, won, ends, stolen, five, lengths, short}
use Rattle.line.specs.Samples.{with_p, with_k, with_reading, with_desk, with_stage, with_round, with_written, with_claimed, with_finished, with_entry}

-- ---- runs

pub record Run : Type 0 where
  pub line : Line
  pub told : List Exchange

abbrev from : Line → List Exchange → Run
from l ts = record { line = l; told = ts }

abbrev pub Answers : List Run → Type 0
Answers rs = map (λ r. answers r.line (map (λ t. t.step) r.told)) rs ≡ map (λ r. map (λ t. t.answer) r.told) rs

-- the paper's listing
abbrev listing : Run
listing =
    from (opened (size 2 2 2)) (
    order 1 5 ⇒ Refused Full 4
    ∷ look 0 1 ⇒ Seen 0
    ∷ look 1 1 ⇒ Seen 0
    ∷ claim 0 ⇒ Claimed 0
    ∷ claim 1 ⇒ Refused Lost 0
    ∷ get ⇒ Got 1
    ∷ get ⇒ Got 2
    ∷ get ⇒ Got 4
    ∷ put 5 ⇒ Put 5
    ∷ put 6 ⇒ Put 6
    ∷ put 7 ⇒ Refused Full 0
    ∷ get ⇒ Got 5
    ∷ put 7 ⇒ Refused Busy 0
    ∷ fetch 0 ⇒ Took 3
    ∷ finish 0 ⇒ Done
    ∷ put 7 ⇒ Put 7
    ∷ get ⇒ Got 6
    ∷ get ⇒ Got 7
    ∷ get ⇒ Refused Empty 0
    ∷ look 1 0 ⇒ Refused Owned 0
    ∷ [])

unfoldable pub ListingCases : Type 0
ListingCases = Answers (listing ∷ [])

-- a desk has seen place 0 of turn 1, and the owner has taken the block over behind the look
abbrev behind : List Exchange → Run
behind ts =
    from (opened (size 2 1 1)) (
    put 1 ⇒ Put 1
    ∷ put 2 ⇒ Put 2
    ∷ look 0 1 ⇒ Seen 0
    ∷ get ⇒ Got 1
    ∷ get ⇒ Got 2
    ∷ ts)

abbrev owned : Run
owned = behind (claim 0 ⇒ Refused Lost 0 ∷ [])

-- the block is filled again: place 0 of turn 3 stands there
abbrev refilled : Run
refilled = behind (put 3 ⇒ Put 3 ∷ get ⇒ Got 3 ∷ put 4 ⇒ Put 4 ∷ claim 0 ⇒ Refused Lost 0 ∷ [])

-- the tests in the paper's order; numbers not named are ignored
abbrev tested : Run
tested =
    from middle (
    raw 3 0 0 ⇒ Refused Badstep 0
    ∷ raw 15 0 0 ⇒ Refused Badstep 0
    ∷ raw 80 0 0 ⇒ Refused Badstep 0
    ∷ look 4 9 ⇒ Refused Nodesk 0
    ∷ claim 4 ⇒ Refused Nodesk 0
    ∷ look 0 2 ⇒ Refused Noblock 0
    ∷ look 0 1 ⇒ Refused Stage 0
    -- a refused second look leaves the first
    ∷ look 1 0 ⇒ Refused Owned 0
    ∷ raw 17 9 9 ⇒ Claimed 1
    ∷ look 3 1 ⇒ Refused Nothing 0
    -- LOST leaves no look
    ∷ claim 3 ⇒ Refused Lost 0
    ∷ claim 3 ⇒ Refused Stage 0
    ∷ [])

-- FULL before BUSY, and neither once the desk has finished; an order counts what it placed
abbrev awaited : Run
awaited =
    from middle (
    order 12 13 ⇒ Refused Full 1
    ∷ put 1000000 ⇒ Refused Notlabel 0
    ∷ order 1 1000000 ⇒ Refused Range 0
    ∷ order 2 1 ⇒ Refused Range 0
    ∷ put 13 ⇒ Refused Full 0
    ∷ get ⇒ Got 11
    ∷ put 13 ⇒ Refused Busy 0
    ∷ finish 2 ⇒ Done
    ∷ raw 0 13 9 ⇒ Put 13
    ∷ get ⇒ Got 12
    ∷ get ⇒ Got 13
    ∷ [])

-- a get passes a block whose labels are all claimed
abbrev passed : Run
passed = from (stolen 0) (get ⇒ Got 5 ∷ get ⇒ Refused Empty 0 ∷ [])

-- the last of sixteen desks
abbrev sixteenth : Run
sixteenth =
    from (ends (won 3)) (
    fetch 15 ⇒ Took 8
    ∷ finish 15 ⇒ Done
    ∷ look 15 1 ⇒ Refused Nothing 0
    ∷ raw 80 1 0 ⇒ Refused Badstep 0
    ∷ [])

unfoldable pub RunCases : Type 0
RunCases = Answers (refilled ∷ owned ∷ tested ∷ awaited ∷ passed ∷ sixteenth ∷ [])

-- the last turn of all, and behind it WORN: before FULL, behind NOTLABEL and RANGE
abbrev last_turn : Run
last_turn = from (read 131070 131070 65535 65534) (put 7 ⇒ Put 7 ∷ put 8 ⇒ Refused Worn 0 ∷ get ⇒ Got 7 ∷ put 8 ⇒ Refused Worn 0 ∷ [])

abbrev last_order : Run
last_order = from (read 131070 131070 65535 65534) (order 7 9 ⇒ Refused Worn 1 ∷ [])

abbrev worn : Run
worn = from (read 131071 131071 65535 65535) (put 7 ⇒ Refused Worn 0 ∷ put 1000000 ⇒ Refused Notlabel 0 ∷ order 9 8 ⇒ Refused Range 0 ∷ [])

abbrev worn_full : Run
worn_full = from (read 131071 131070 65535 65535) (put 7 ⇒ Refused Worn 0 ∷ [])

unfoldable pub WornCases : Type 0
WornCases = Answers (last_turn ∷ last_order ∷ worn ∷ worn_full ∷ [])

-- the lines that runs from opening lead to
pub record Way : Type 0 where
  pub size : Size
  pub steps : List Step
  pub line : Line

abbrev way : Size → List Step → Line → Way
way z ss l = record { size = z; steps = ss; line = l }

abbrev pub Leads : List Way → Type 0
Leads ws = map (λ w. after (opened w.size) w.steps) ws ≡ map (λ w. w.line) ws

-- turns 0 and 1 are filled and got, a look at turn 1 left behind
abbrev two_turns : List Step
two_turns = order 1 6 ∷ get ∷ get ∷ get ∷ look 3 1 ∷ get ∷ get ∷ get ∷ []

-- turn 2 is filled, its first label taken whole, its second fetched, its third got
abbrev third_turn : List Step
third_turn = order 7 9 ∷ look 0 0 ∷ claim 0 ∷ fetch 0 ∷ finish 0 ∷ look 2 0 ∷ claim 2 ∷ fetch 2 ∷ get ∷ []

unfoldable pub WayCases : Type 0
WayCases =
    Leads (
    way (size 2 2 2) [] fresh
    ∷ way (size 3 2 2) (order 1 3 ∷ get ∷ []) started
    ∷ way (size 2 3 4) (two_turns ++ third_turn ++ (put 10 ∷ put 11 ∷ look 0 1 ∷ claim 0 ∷ look 1 1 ∷ [])) middle
    ∷ [])

-- ---- single steps and orders: the line that they leave, and the answer

pub record Did : Type 0 where
  pub line : Line
  pub step : Step
  pub outcome : Outcome

abbrev did : Line → Step → Line → Answer → Did
did l s m a = record { line = l; step = s; outcome = says m a }

abbrev pub Does : List Did → Type 0
Does ds = map (λ d. step d.line d.step) ds ≡ map (λ d. d.outcome) ds

unfoldable pub StepCases : Type 0
StepCases =
    Does (
    did middle (put 12) (with_written 1 3 (with_entry 5 12 middle)) (Put 12)
    ∷ did (read 3 3 1 1) (put 5) (with_p 4 (with_round 0 2 (with_entry 0 5 (read 3 3 1 1)))) (Put 5)
    ∷ did middle get (with_reading 2 (with_k 3 middle)) (Got 11)
    ∷ did (stolen 0) get (with_reading 1 (with_k 2 (stolen 0))) (Got 5)
    ∷ did middle (look 3 1) (with_desk 3 (looked (spot 3 1)) middle) (Seen 1)
    ∷ did middle (claim 1) (with_claimed 1 2 (with_desk 1 (claimed (spot 3 1)) middle)) (Claimed 1)
    ∷ did middle (fetch 0) (with_desk 0 (fetched (spot 3 0)) middle) (Took 10)
    ∷ did middle (finish 2) (with_finished 0 2 (with_desk 2 idle middle)) Done
    ∷ [])

unfoldable pub RefusedCases : Type 0
RefusedCases =
    Does (
    -- the line is unfit, or damaged: nothing else is read
    did short (put 1) short (Refused Unfit 0)
    ∷ did (with_k 1 short) (raw 99 0 0) (with_k 1 short) (Refused Unfit 0)
    ∷ did (with_k 1 fresh) (put 1) (with_k 1 fresh) (Refused Damaged 0)
    ∷ did (with_finished 1 1 started) get (with_finished 1 1 started) (Refused Damaged 0)
    ∷ did (with_round 2 1 started) (raw 99 0 0) (with_round 2 1 started) (Refused Damaged 0)
    ∷ did (with_stage 4 4 middle) (order 1 9) (with_stage 4 4 middle) (Refused Damaged 0)
    -- LOST leaves the desk idle, EMPTY keeps its moves, an order keeps what it placed
    ∷ did middle (claim 3) (with_desk 3 idle middle) (Refused Lost 0)
    ∷ did (stolen 1) get (with_reading 1 (with_k 2 (stolen 1))) (Refused Empty 0)
    ∷ did middle (order 12 14) (with_written 1 3 (with_entry 5 12 middle)) (Refused Full 1)
    -- every other refusal leaves the line as it was
    ∷ did (read 3 2 1 1) (put 4) (read 3 2 1 1) (Refused Full 0)
    ∷ did middle (look 0 2) middle (Refused Noblock 0)
    ∷ did middle (fetch 2) middle (Refused Stage 0)
    ∷ did middle (look 1 0) middle (Refused Owned 0)
    ∷ [])

pub record Ordered : Type 0 where
  pub line : Line
  pub first : ℕ
  pub last : ℕ
  pub outcome : Outcome

abbrev ordered : Line → ℕ → ℕ → Line → Answer → Ordered
ordered l a e m w = record { line = l; first = a; last = e; outcome = says m w }

abbrev pub Orders : List Ordered → Type 0
Orders os = map (λ o. orders o.line o.first o.last) os ≡ map (λ o. o.outcome) os

unfoldable pub OrderCases : Type 0
OrderCases =
    Orders (
    ordered short 1 2 short (Refused Unfit 0)
    ∷ ordered (with_k 1 fresh) 1 2 (with_k 1 fresh) (Refused Damaged 0)
    ∷ ordered middle 2 1 middle (Refused Range 0)
    ∷ ordered middle 1 1000000 middle (Refused Range 0)
    ∷ ordered middle 12 12 (with_written 1 3 (with_entry 5 12 middle)) (Whole 1)
    ∷ ordered middle 12 999999 (with_written 1 3 (with_entry 5 12 middle)) (Refused Full 1)
    ∷ [])

-- ---- the survey

pub record Look : Type 0 where
  pub line : Line
  pub views : Surveyed

abbrev tells : Line → ℕ → ℕ → ℕ → Look
tells l mask count lowest = record { line = l; views = surveyed (record { mask = mask; count = count; lowest = lowest }) }

abbrev refused : Line → Surveyed → Look
refused l a = record { line = l; views = a }

abbrev pub Tells : List Look → Type 0
Tells ss = map (λ s. survey s.line) ss ≡ map (λ s. s.views) ss

unfoldable pub SurveyCases : Type 0
SurveyCases =
    Tells (
    -- blocks 1 and 4; the same line, all owned
    tells (five 3) 18 2 1
    ∷ tells (five 6) 0 0 64
    ∷ tells middle 2 1 1
    ∷ tells fresh 0 0 64
    ∷ refused short survey·unfit
    ∷ refused (with_finished 1 2 (five 3)) survey·damaged
    ∷ [])

-- ---- opening

pub record Lent : Type 0 where
  pub line : Line
  pub size : Size
  pub opening : Opened

-- the line lent is blank afterwards, or as it was
abbrev blanks : Line → Size → Line → Lent
blanks l z m = record { line = l; size = z; opening = record { line = m; answer = open·line } }

abbrev leaves : Line → Size → Lent
leaves l z = record { line = l; size = z; opening = record { line = l; answer = open·unfit } }

abbrev pub OpensTo : List Lent → Type 0
OpensTo os = map (λ o. opens o.line o.size) os ≡ map (λ o. o.opening) os

unfoldable pub OpeningCases : Type 0
OpeningCases =
    OpensTo (
    blanks (lengths 2 4 middle) (size 2 2 2) fresh
    ∷ blanks (with_k 9 (with_stage 15 9 (with_round 1 9 (with_entry 3 9 fresh)))) (size 2 2 2) fresh
    -- the lengths lent are of another size
    ∷ leaves middle (size 2 2 4)
    ∷ leaves middle (size 3 2 4)
    -- a number outside its limits
    ∷ leaves (opened (size 1 1 1)) (size 1 1 1)
    ∷ leaves (opened (size 65 1 1)) (size 65 1 1)
    ∷ leaves (opened (size 2 0 1)) (size 2 0 1)
    ∷ leaves (opened (size 2 65 1)) (size 2 65 1)
    ∷ leaves fresh (size 2 2 0)
    ∷ leaves fresh (size 2 2 17)
    -- NB 64 opens
    ∷ blanks (opened (size 64 1 1)) (size 64 1 1) (opened (size 64 1 1))
    ∷ [])

-- NB 1 UNFIT, and NB 65 UNFIT, whatever else is asked for and lent
unfoldable pub OpeningUnfit : Type 0
OpeningUnfit = (l : Line) (ne t : ℕ) → OpensTo (leaves l (size 1 ne t) ∷ leaves l (size 65 ne t) ∷ [])

-- ---- a desk that a step makes idle, and each of opening's, is written as zeros

unfoldable pub IdleCases : Type 0
IdleCases = numbers_of idle ≡ record { stage = 0; place = 0; turn = 0 }

-- ---- what opening, the check and the survey say, case by case: 0, or the number of UNFIT or DAMAGED, and the values

unfoldable pub NumberCases : Type 0
NumberCases =
    (map opening_said (open·line ∷ open·unfit ∷ []) ≡ record { number = 0; value = 0 } ∷ record { number = 1; value = 0 } ∷ [])
    × ((place rule : ℕ) → map check_said (sound ∷ unfit ∷ broken place rule ∷ [])
    ≡ record { number = 0; place = 0; rule = 0 } ∷ record { number = 1; place = 0; rule = 0 } ∷ record { number = 2; place = place; rule = rule } ∷ [])
    × ((mask count lowest : ℕ)
    → map survey_said (surveyed (record { mask = mask; count = count; lowest = lowest }) ∷ survey·unfit ∷ survey·damaged ∷ [])
    ≡ record { number = 0; mask = mask; count = count; lowest = lowest }
    ∷ map (λ n. record { number = n; mask = 0; count = 0; lowest = 64 }) (1 ∷ 2 ∷ []))

-- ---- the cases that compute, all of them

unfoldable pub LineCases : Type 0
LineCases = ListingCases × RunCases × WornCases × WayCases × StepCases × RefusedCases × OrderCases × SurveyCases × OpeningCases × IdleCases
