-- The cases of specs/Cases.antt, by computing.
use Rattle.std.proofs.Common.{refl}
use Rattle.schedule.specs.Bytes.{steps_from, steps_of, bytes_of_all}
use Rattle.printing.specs.Text.{digits, decimal}
use Rattle.shown.specs.Shown.{numbers_text, step_text, steps_text, cut_text, size_text, text}
use Rattle.shown.specs.Cases.{ShownCases, IgnoredCases, TextCases}

pub shown_cases : ShownCases
unfolding ShownCases digits decimal numbers_text step_text
shown_cases = refl

pub ignored_cases : IgnoredCases
unfolding IgnoredCases digits decimal numbers_text step_text
ignored_cases = refl

pub text_cases : TextCases
unfolding TextCases digits decimal numbers_text step_text steps_text cut_text size_text text steps_from steps_of bytes_of_all
text_cases = refl
