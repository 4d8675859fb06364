-- The survey, as it is computed. Proved to be what specs/Demands.antt says of it: `SurveyTells`, `SurveyGuarded`.
use Rattle.std.specs.Prelude.{Bool, true, false, List, [], ◌∷◌, ℕ, zero, suc, ◌+◌, ◌*◌, if◌then◌else◌, Result, Ok, Err}
use Rattle.words.specs.declared.Answer.{Answer}
use Rattle.words.specs.declared.Answer.TheVariants.{Put, Got, Took, Whole, Seen, Claimed, Done, Refused}
use Rattle.words.specs.declared.Refusal.{Refusal}
use Rattle.words.specs.declared.Refusal.TheVariants.{Unfit, Damaged}
use Rattle.book.specs.Total.{total}
use Rattle.book.specs.declared.DeskStep.TheVariants.{Look as look}
use Rattle.book.specs.Steps.{idle}
use Rattle.line.specs.Line.{Line, desk_step, size_in}
use Rattle.line.specs.Check.{Checked, refusal_of, check}
pub use Rattle.line.specs.declared.Findings.{Findings}

abbrev pub is_seen : Answer → Bool
is_seen (Put label) = false
is_seen (Got label) = false
is_seen (Took label) = false
is_seen (Whole n) = false
is_seen (Seen place) = true
is_seen (Claimed place) = false
is_seen Done = false
is_seen (Refused w n) = false

-- for n blocks from block i on: would an idle desk's look be SEEN
unfoldable pub seen_from : Line → ℕ → ℕ → List Bool
seen_from l i zero = []
seen_from l i (suc n) = is_seen (desk_step (size_in l) l 0 (look i) idle).answer ∷ seen_from l (suc i) n

abbrev pub bit : Bool → ℕ
bit b = if b then 1 else 0

-- bit b of the mask is the b-th of the list
unfoldable pub mask_of : List Bool → ℕ
mask_of [] = 0
mask_of (b ∷ bs) = bit b + 2 * mask_of bs

-- the lowest of them, the list starting at block i; 64 where there is none
unfoldable pub lowest_from : ℕ → List Bool → ℕ
lowest_from i [] = 64
lowest_from i (b ∷ bs) = let later = lowest_from (suc i) bs in if b then i else later

unfoldable pub views : List Bool → Findings
views bs = record { mask = mask_of bs; count = total bit bs; lowest = lowest_from 0 bs }

-- what the survey answers: what it finds, or a refusal
abbrev pub Surveyed : Type 0
Surveyed = Result Findings Refusal

abbrev pub surveyed : Findings → Surveyed
surveyed v = Ok v

abbrev pub survey·unfit : Surveyed
survey·unfit = Err Unfit

abbrev pub survey·damaged : Surveyed
survey·damaged = Err Damaged

-- what a refused survey says beside its refusal: no block is seen
abbrev pub none : Findings
none = record { mask = 0; count = 0; lowest = 64 }

abbrev pub found : Surveyed → Findings
found (Ok v) = v
found (Err w) = none

unfoldable pub surveys : Line → Checked → Surveyed
surveys l (Ok u) = surveyed (views (seen_from l 0 l.head.nb))
surveys l (Err f) = Err (refusal_of f)

unfoldable pub survey : Line → Surveyed
survey l = surveys l (check l)
