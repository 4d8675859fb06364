-- What opening, the check and the survey say: the paper's number, or 0 where nothing is refused, and the values of each
-- case. `said` of words does the same for the answers of a step and of an order. The promises of every call use these
-- definitions.
use Rattle.std.specs.Prelude.{ℕ, Ok, Err}
use Rattle.words.specs.declared.Refusal.{Refusal}
use Rattle.words.specs.Words.{refusal}
use Rattle.line.specs.Check.{Misfit, Broken, Checked, refusal_of}
use Rattle.line.specs.Calls.{Opening}
use Rattle.line.specs.Survey.{Surveyed, found}

abbrev number : Refusal → ℕ
number w = (refusal w).0

-- ---- opening

pub record OpeningSaid : Type 0 where
  pub number : ℕ
  pub value : ℕ

abbrev pub opening_said : Opening → OpeningSaid
opening_said (Ok u) = record { number = 0; value = 0 }
opening_said (Err w) = record { number = number w; value = 0 }

-- ---- the check: DAMAGED is said with the place and the rule

pub record CheckSaid : Type 0 where
  pub number : ℕ
  pub place : ℕ
  pub rule : ℕ

abbrev pub check_said : Checked → CheckSaid
check_said (Ok u) = record { number = 0; place = 0; rule = 0 }
check_said (Err Misfit) = record { number = number (refusal_of Misfit); place = 0; rule = 0 }
check_said (Err (Broken place rule)) = record { number = number (refusal_of (Broken place rule)); place = place; rule = rule }

-- ---- the survey

pub record SurveySaid : Type 0 where
  pub number : ℕ
  pub mask : ℕ
  pub count : ℕ
  pub lowest : ℕ

abbrev pub survey_number : Surveyed → ℕ
survey_number (Ok v) = 0
survey_number (Err w) = number w

abbrev pub survey_said : Surveyed → SurveySaid
survey_said r = let v = found r in record { number = survey_number r; mask = v.mask; count = v.count; lowest = v.lowest }
