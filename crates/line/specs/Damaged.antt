-- Damaged lines and what the check answers, rule by rule, with sound lines just beside them. A line is damaged in as few
-- numbers as break the rule, and keeps every rule asked before it. proofs/Cases.antt computes them.
use Rattle.std.specs.Prelude.{◌≡◌, List, [], ◌∷◌, map}
use Rattle.line.specs.Line.{Line, opened}
use Rattle.line.specs.Check.{Checked, sound, unfit, broken, check}
use Rattle.line.specs.Samples.{size, fresh, started, middle, read, held, won, took, ends, stolen, five, lengths}
use Rattle.line.specs.Samples.{with_k, with_reading, with_stage, with_turn, with_place, with_round, with_written, with_claimed, with_finished}

pub record Case : Type 0 where
  pub line : Line
  pub answer : Checked

infix 70 ◌is◌
abbrev ◌is◌ : Line → Checked → Case
l is a = record { line = l; answer = a }

abbrev pub Checks : List Case → Type 0
Checks cs = map (λ c. check c.line) cs ≡ map (λ c. c.answer) cs

unfoldable pub SoundCases : Type 0
SoundCases =
    Checks (
    fresh is sound
    ∷ started is sound
    ∷ middle is sound
    ∷ read 3 2 1 1 is sound
    ∷ held 4 (won 0 ∷ won 1 ∷ took 2 ∷ took 3 ∷ []) is sound
    ∷ stolen 0 is sound
    ∷ stolen 1 is sound
    ∷ five 3 is sound
    ∷ five 6 is sound
    ∷ [])

unfoldable pub UnfitCases : Type 0
UnfitCases =
    Checks (
    opened (size 1 1 1) is unfit
    ∷ opened (size 65 1 1) is unfit
    ∷ opened (size 2 0 1) is unfit
    ∷ opened (size 2 65 1) is unfit
    ∷ opened (size 2 1 0) is unfit
    ∷ opened (size 2 1 17) is unfit
    ∷ opened (size 2 1 1) is sound
    ∷ opened (size 64 64 16) is sound
    -- a record too few, one too many, an entry too few, one too many
    ∷ lengths 1 4 fresh is unfit
    ∷ lengths 2 4 fresh is sound
    ∷ lengths 3 4 fresh is unfit
    ∷ lengths 2 3 fresh is unfit
    ∷ lengths 2 5 fresh is unfit
    -- before a rule that is broken
    ∷ lengths 1 4 (with_k 1 fresh) is unfit
    ∷ [])

unfoldable pub Rule1Cases : Type 0
Rule1Cases =
    Checks (
    -- K is P + 1
    with_k 1 fresh is broken 64 1
    ∷ with_k 4 (read 3 2 1 1) is broken 64 1
    -- P - K is NB
    ∷ with_k 1 (read 3 2 1 1) is broken 64 1
    -- P is 65,536 x NB, with the round that it would have and with none; and one less
    ∷ read 131072 131072 65536 65535 is broken 64 1
    ∷ read 131072 131072 0 65535 is broken 64 1
    ∷ read 131071 131071 65535 65535 is sound
    ∷ [])

unfoldable pub Rule2Cases : Type 0
Rule2Cases =
    Checks (
    -- below claimed, claimed, above written
    with_reading 1 middle is broken 64 2
    ∷ with_reading 2 middle is sound
    ∷ with_reading 4 middle is broken 64 2
    ∷ with_reading 1 fresh is broken 64 2
    ∷ [])

unfoldable pub Rule3Cases : Type 0
Rule3Cases =
    Checks (
    -- desk T, and the last of the sixteen, not idle; a desk T that holds a label
    with_stage 4 1 middle is broken 64 3
    ∷ with_stage 15 1 middle is broken 64 3
    ∷ held 3 (won 0 ∷ won 1 ∷ took 2 ∷ won 3 ∷ []) is broken 64 3
    ∷ held 3 (won 0 ∷ won 1 ∷ took 2 ∷ took 3 ∷ []) is broken 64 3
    -- no stage, of a desk of the line and of another
    ∷ with_stage 1 4 middle is broken 64 3
    ∷ with_stage 4 4 middle is broken 64 3
    -- an idle desk's turn and place are not read
    ∷ with_turn 4 9 (with_place 4 9 middle) is sound
    -- claimed: an older turn, a turn above P, place = claimed
    ∷ with_stage 3 2 middle is broken 64 3
    ∷ with_turn 0 5 middle is broken 64 3
    ∷ with_place 0 1 middle is broken 64 3
    -- fetched: the same
    ∷ with_stage 3 3 middle is broken 64 3
    ∷ with_turn 2 4 middle is broken 64 3
    ∷ with_place 2 2 middle is broken 64 3
    -- looked: turn P + 1; of an older turn place NE, and the one before it; place = written of a current turn
    ∷ with_turn 1 4 middle is broken 64 3
    ∷ with_place 3 3 middle is broken 64 3
    ∷ with_place 3 2 middle is sound
    ∷ with_place 1 2 middle is broken 64 3
    ∷ [])

-- rule 3's pairs of desks that hold one place
unfoldable pub PairCases : Type 0
PairCases =
    Checks (
    -- desks 0 and 1: claimed and claimed, claimed and fetched, fetched and claimed, fetched and fetched
    held 4 (won 0 ∷ won 0 ∷ took 2 ∷ took 3 ∷ []) is broken 64 3
    ∷ held 4 (won 0 ∷ took 0 ∷ took 2 ∷ took 3 ∷ []) is broken 64 3
    ∷ held 4 (took 0 ∷ won 0 ∷ took 2 ∷ took 3 ∷ []) is broken 64 3
    ∷ held 4 (took 0 ∷ took 0 ∷ took 2 ∷ took 3 ∷ []) is broken 64 3
    -- the last two desks; the first and the last
    ∷ held 4 (won 0 ∷ won 1 ∷ took 2 ∷ took 2 ∷ []) is broken 64 3
    ∷ held 4 (won 0 ∷ won 1 ∷ took 2 ∷ took 0 ∷ []) is broken 64 3
    -- the same of sixteen desks
    ∷ ends (won 3) is sound
    ∷ ends (won 2) is broken 64 3
    ∷ ends (won 0) is broken 64 3
    -- one place of two turns; two looked at one spot; looked where a desk before it, or behind it, holds the label
    ∷ with_place 2 0 middle is sound
    ∷ with_stage 2 2 (with_place 2 0 middle) is sound
    ∷ with_turn 3 3 (with_place 3 1 middle) is sound
    ∷ with_place 1 0 middle is sound
    ∷ with_turn 1 2 middle is sound
    ∷ [])

unfoldable pub Rule4Cases : Type 0
Rule4Cases =
    Checks (
    -- the round of a used block
    with_round 0 0 middle is broken 0 4
    ∷ with_round 0 2 middle is broken 0 4
    ∷ with_round 1 0 middle is broken 1 4
    ∷ with_round 1 2 middle is broken 1 4
    ∷ with_round 0 1 fresh is broken 0 4
    -- an unused block
    ∷ with_round 2 1 started is broken 2 4
    ∷ with_written 2 1 started is broken 2 4
    ∷ with_claimed 2 1 started is broken 2 4
    ∷ with_finished 2 1 started is broken 2 4
    ∷ [])

unfoldable pub Rule5Cases : Type 0
Rule5Cases =
    Checks (
    -- NE + 1 labels: at turn P, below it, at turn 0
    with_written 1 4 middle is broken 1 5
    ∷ with_written 0 3 started is broken 0 5
    ∷ with_written 0 3 fresh is broken 0 5
    -- NE - 1 labels below turn P: in turn K, and above it
    ∷ with_written 0 1 started is broken 0 5
    ∷ with_written 4 1 (five 3) is broken 4 5
    -- no label at turn P, which is not 0; all NE of them
    ∷ with_written 1 0 started is broken 1 5
    ∷ with_written 1 2 started is sound
    ∷ [])

unfoldable pub Rule6Cases : Type 0
Rule6Cases =
    Checks (
    -- claimed is written + 1, and so is finished; both are written
    with_claimed 1 2 started is broken 1 6
    ∷ with_finished 1 2 (with_claimed 1 2 started) is broken 1 6
    ∷ with_finished 1 1 (with_claimed 1 1 started) is sound
    -- a claim in turn 0, and finished
    ∷ with_claimed 0 1 started is broken 0 6
    ∷ with_finished 0 1 (with_claimed 0 1 started) is broken 0 6
    ∷ [])

unfoldable pub Rule7Cases : Type 0
Rule7Cases =
    Checks (
    -- finished above claimed
    with_finished 1 1 started is broken 1 7
    -- a claim without a desk
    ∷ with_claimed 1 1 started is broken 1 7
    ∷ with_finished 0 0 middle is broken 0 7
    ∷ with_stage 0 0 middle is broken 1 7
    -- a desk without a claim
    ∷ with_finished 1 1 middle is broken 1 7
    ∷ with_finished 0 2 middle is broken 0 7
    ∷ [])

-- several rules broken: which one is named
unfoldable pub SeveralCases : Type 0
SeveralCases =
    Checks (
    -- the head's, the lowest first, and before every block's
    with_k 4 (with_reading 9 (with_stage 1 4 (with_round 0 9 middle))) is broken 64 1
    ∷ with_reading 9 (with_stage 1 4 (with_round 0 9 middle)) is broken 64 2
    ∷ with_stage 1 4 (with_round 0 9 middle) is broken 64 3
    -- the lowest block's, though it is a higher rule
    ∷ with_finished 0 0 (with_round 1 9 middle) is broken 0 7
    -- the block's lowest
    ∷ with_round 1 9 (with_written 1 4 (with_finished 1 9 middle)) is broken 1 4
    ∷ with_written 1 0 (with_claimed 1 1 started) is broken 1 5
    ∷ with_claimed 1 2 started is broken 1 6
    ∷ [])

-- ---- all of them

unfoldable pub DamagedCases : Type 0
DamagedCases = SoundCases × UnfitCases × Rule1Cases × Rule2Cases × Rule3Cases × PairCases × Rule4Cases × Rule5Cases × Rule6Cases × Rule7Cases × SeveralCases
