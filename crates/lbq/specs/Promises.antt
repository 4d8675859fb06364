-- What each call promises: its whole outcome, refusals included, as one equation with the definitions of the line, at
-- the numbers as they were given. What was lent is a line, and so is what is there afterwards; the reply is made of
-- what the portal's promises tell of the answer.
use Rattle.std.specs.Prelude.{◌≡◌, ℕ}
use Rattle.book.specs.Sizes.{Size}
use Rattle.book.specs.Steps.{Step}
use Rattle.line.specs.Line.{Line}
use Rattle.line.specs.Check.{check}
use Rattle.line.specs.Calls.{opens, step, orders}
use Rattle.line.specs.Survey.{survey}
use Rattle.portal.specs.Promises.{Told, told, ToldOpening, told_opening}
use Rattle.lbq.specs.Replies.{Reply, CheckReply, SurveyReply, reply, opening_reply, of_check, of_survey}

-- what a call that changes the line gives: the line after it, and the reply
pub record Replied : Type 0 where
  pub line : Line
  pub reply : Reply

abbrev pub replied : Told → Replied
replied t = record { line = t.line; reply = reply t.said }

abbrev pub replied_opening : ToldOpening → Replied
replied_opening t = record { line = t.line; reply = opening_reply t.said }

abbrev pub RepliesOpening : Line → Size → Reply → Line → Type 0
RepliesOpening l z r m = record { line = m; reply = r } ≡ replied_opening (told_opening (opens l z))

abbrev pub RepliesStep : Line → Step → Reply → Line → Type 0
RepliesStep l s r m = record { line = m; reply = r } ≡ replied (told (step l s))

abbrev pub RepliesOrder : Line → ℕ → ℕ → Reply → Line → Type 0
RepliesOrder l first last r m = record { line = m; reply = r } ≡ replied (told (orders l first last))

abbrev pub RepliesCheck : Line → CheckReply → Type 0
RepliesCheck l r = r ≡ of_check (check l)

abbrev pub RepliesSurvey : Line → SurveyReply → Type 0
RepliesSurvey l r = r ≡ of_survey (survey l)
