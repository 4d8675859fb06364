-- The cases of specs/Cases.antt, by computing.
use Rattle.std.proofs.Common.{refl}
use Rattle.schedule.specs.Bytes.{is_header, steps_from, steps_of, bytes_of_all}
use Rattle.schedule.specs.Cases.{HeaderCases, NumberCases, CodeCases, CutCases, LimitCases}

pub header_cases : HeaderCases
unfolding HeaderCases is_header
header_cases = (refl, refl, refl)

pub number_cases : NumberCases
unfolding NumberCases steps_from steps_of bytes_of_all
number_cases = (refl, refl)

pub code_cases : CodeCases
unfolding CodeCases
code_cases = refl

pub cut_cases : CutCases
unfolding CutCases
cut_cases = (refl, refl)

pub limit_cases : LimitCases
unfolding LimitCases
limit_cases = (λ bs e. rw e refl, λ bs e. rw e refl)
