-- What crosses of each answer: the number and the values that are said of it.
use Rattle.words.specs.declared.Answer.{Answer}
use Rattle.words.specs.Words.{Said, said}
use Rattle.line.specs.Check.{Checked}
use Rattle.line.specs.Calls.{Opening}
use Rattle.line.specs.Survey.{Surveyed}
use Rattle.line.specs.Numbers.{OpeningSaid, opening_said, CheckSaid, check_said, SurveySaid, survey_said}
pub use Rattle.lbq.specs.declared.replies.Reply.{Reply}
pub use Rattle.lbq.specs.declared.replies.CheckReply.{CheckReply}
pub use Rattle.lbq.specs.declared.replies.SurveyReply.{SurveyReply}

abbrev pub reply : Said → Reply
reply s = record { number = s.number; value = s.value }

abbrev pub opening_reply : OpeningSaid → Reply
opening_reply s = record { number = s.number; value = s.value }

abbrev pub check_reply : CheckSaid → CheckReply
check_reply s = record { number = s.number; place = s.place; rule = s.rule }

abbrev pub survey_reply : SurveySaid → SurveyReply
survey_reply s = record { mask = s.mask; number = s.number; count = s.count; lowest = s.lowest }

abbrev pub of_answer : Answer → Reply
of_answer a = reply (said a)

abbrev pub of_opening : Opening → Reply
of_opening o = opening_reply (opening_said o)

abbrev pub of_check : Checked → CheckReply
of_check c = check_reply (check_said c)

abbrev pub of_survey : Surveyed → SurveyReply
of_survey v = survey_reply (survey_said v)
