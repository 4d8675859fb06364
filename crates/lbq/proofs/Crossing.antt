-- What crosses is the paper's: the number of each answer and its value; and 0, 1 or 2 of opening, check and survey.
use Rattle.std.proofs.Common.{◌≡◌, ℕ, [], ◌∷◌, ◌++◌, map, replicate, refl}
use Rattle.words.specs.Spelling.{answers}
use Rattle.words.proofs.Laws.{fifteen, carried}
use Rattle.line.specs.Check.{sound, unfit, broken}
use Rattle.line.specs.Calls.{open·line, open·unfit}
use Rattle.line.specs.Survey.{surveyed, survey·unfit, survey·damaged}
use Rattle.lbq.specs.Replies.{of_answer, of_opening, of_check, of_survey}

-- of all answers that carry v: 0 for the seven that are no refusal, and 1 to 15 for the refusals; each value but that
-- of DONE
pub numbers : (v : ℕ) → map (λ a. (of_answer a).number) (answers v) ≡ replicate 7 0 ++ (1 ∷ 2 ∷ 3 ∷ 4 ∷ 5 ∷ 6 ∷ 7 ∷ 8 ∷ 9 ∷ 10 ∷ 11 ∷ 12 ∷ 13 ∷ 14 ∷ 15 ∷ [])
numbers v = fifteen v

pub values : (v : ℕ) → map (λ a. (of_answer a).value) (answers v) ≡ replicate 6 v ++ (0 ∷ replicate 15 v)
values v = carried v

pub openings : map of_opening (open·line ∷ open·unfit ∷ []) ≡ record { number = 0; value = 0 } ∷ record { number = 1; value = 0 } ∷ []
openings = refl

pub checks : (place rule : ℕ) → map of_check (sound ∷ unfit ∷ broken place rule ∷ [])
    ≡ record { number = 0; place = 0; rule = 0 } ∷ record { number = 1; place = 0; rule = 0 } ∷ record { number = 2; place = place; rule = rule } ∷ []
checks place rule = refl

pub surveys : (mask count lowest : ℕ) → map of_survey (surveyed (record { mask = mask; count = count; lowest = lowest }) ∷ survey·unfit ∷ survey·damaged ∷ [])
    ≡ record { mask = mask; number = 0; count = count; lowest = lowest } ∷ map (λ n. record { mask = 0; number = n; count = 0; lowest = 64 }) (1 ∷ 2 ∷ [])
surveys mask count lowest = refl
