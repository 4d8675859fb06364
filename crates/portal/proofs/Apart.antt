-- No two answers say the same: what is said of an answer tells which it is. So a promise that is an equation of what is
-- said fixes the answer itself.
use Rattle.std.proofs.Common.{◌≡◌, ℕ, ◌-◌, get_or, if◌then◌else◌, Ok, Err, sym, refl, ap, ◌∙◌}
use lib.Text.{eqt}
use Rattle.words.specs.declared.Answer.{Answer}
use Rattle.words.specs.declared.Answer.TheVariants.{Put, Got, Took, Whole, Seen, Claimed, Done, Refused}
use Rattle.words.specs.declared.Refusal.{Refusal}
use Rattle.words.specs.declared.Refusal.TheVariants.{Unfit, Damaged, Badstep, Nodesk, Noblock, Stage, Owned, Nothing, Lost, Notlabel, Range, Worn, Full, Busy, Empty}
use Rattle.words.specs.Words.{Said, said, refusal}
use Rattle.words.specs.Spelling.{refusals}
use Rattle.book.specs.Choice.{◌≡ᵇ◌}
use Rattle.line.specs.declared.Fault.TheVariants.{Unfit as Misfit, Broken}
use Rattle.line.specs.Check.{Checked, sound, unfit, broken}
use Rattle.line.specs.Calls.{Opening}
use Rattle.line.specs.Numbers.{OpeningSaid, opening_said, CheckSaid, check_said, SurveySaid, survey_said}
use Rattle.line.specs.Survey.{Surveyed}

-- what can be told from what is said of it differs where that differs
apart : {A S : Type 0} (say : A → S) (hear : S → A) → ((a : A) → hear (say a) ≡ a) → (a b : A) → say a ≡ say b → a ≡ b
apart say hear heard a b e = sym (heard a) ∙ ap hear e ∙ heard b

-- ---- a refusal, by its number. Nothing is refused with number 0

abbrev by_number : {A : Type 0} → A → (Refusal → A) → ℕ → A
by_number none refused n = if n ≡ᵇ 0 then none else refused (get_or refusals (n - 1) Unfit)

heard_refusal : {A : Type 0} (none : A) (refused : Refusal → A) (w : Refusal) → by_number none refused (refusal w).0 ≡ refused w
heard_refusal none refused Unfit = refl
heard_refusal none refused Damaged = refl
heard_refusal none refused Badstep = refl
heard_refusal none refused Nodesk = refl
heard_refusal none refused Noblock = refl
heard_refusal none refused Stage = refl
heard_refusal none refused Owned = refl
heard_refusal none refused Nothing = refl
heard_refusal none refused Lost = refl
heard_refusal none refused Notlabel = refl
heard_refusal none refused Range = refl
heard_refusal none refused Worn = refl
heard_refusal none refused Full = refl
heard_refusal none refused Busy = refl
heard_refusal none refused Empty = refl

-- ---- the answer of a step or an order: a refusal by its number, the others by their words

abbrev hear : Said → Answer
hear s =
    by_number
    (if eqt s.word "PUT" then Put s.value else
    if eqt s.word "GOT" then Got s.value else
    if eqt s.word "TOOK" then Took s.value else
    if eqt s.word "WHOLE" then Whole s.value else
    if eqt s.word "SEEN" then Seen s.value else
    if eqt s.word "CLAIMED" then Claimed s.value else Done)
    (λ w. Refused w s.value) s.number

heard : (a : Answer) → hear (said a) ≡ a
heard (Put label) = refl
heard (Got label) = refl
heard (Took label) = refl
heard Done = refl
heard (Whole count) = refl
heard (Seen place) = refl
heard (Claimed place) = refl
heard (Refused w v) = heard_refusal _ (λ u. Refused u v) w

pub said_apart : (a b : Answer) → said a ≡ said b → a ≡ b
said_apart = apart said hear heard

-- ---- opening, the check and the survey, by the number

abbrev hear_opening : OpeningSaid → Opening
hear_opening s = by_number (Ok tt) Err s.number

heard_opening : (o : Opening) → hear_opening (opening_said o) ≡ o
heard_opening (Ok tt) = refl
heard_opening (Err w) = heard_refusal (Ok tt) Err w

pub opening_apart : (o p : Opening) → opening_said o ≡ opening_said p → o ≡ p
opening_apart = apart opening_said hear_opening heard_opening

abbrev hear_check : CheckSaid → Checked
hear_check s = if s.number ≡ᵇ 0 then sound else if s.number ≡ᵇ 1 then unfit else broken s.place s.rule

heard_check : (c : Checked) → hear_check (check_said c) ≡ c
heard_check (Ok tt) = refl
heard_check (Err Misfit) = refl
heard_check (Err (Broken place rule)) = refl

pub check_apart : (c d : Checked) → check_said c ≡ check_said d → c ≡ d
check_apart = apart check_said hear_check heard_check

abbrev hear_survey : SurveySaid → Surveyed
hear_survey s = by_number (Ok (record { mask = s.mask; count = s.count; lowest = s.lowest })) Err s.number

heard_survey : (v : Surveyed) → hear_survey (survey_said v) ≡ v
heard_survey (Ok v) = refl
heard_survey (Err w) = heard_refusal _ Err w

pub survey_apart : (v w : Surveyed) → survey_said v ≡ survey_said w → v ≡ w
survey_apart = apart survey_said hear_survey heard_survey
