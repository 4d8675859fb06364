-- What the engine promises of any entries, as many as were lent, holds of those that were lent: the survey reads none.
use Rattle.std.proofs.Common.{◌≡◌, ℕ, List, length, replicate, ◌∙◌}
use Rattle.std.proofs.lemmas.List.{length-replicate}
use Rattle.line.specs.declared.Block.{Block}
use Rattle.line.specs.declared.Head.{Head}
use Rattle.line.specs.Survey.{Surveyed, survey}
use Rattle.line.specs.Demands.{SurveyUnread}
use Rattle.line.proofs.Unread.{survey_unread}
use Rattle.byvalue.specs.Lent.{line_of}
use Rattle.engine.specs.Promises.{GivesSurvey}

pub lent_surveyed : (h : Head) (t : List Block) (n : ℕ) (es : List ℕ) (r : Surveyed) → GivesSurvey h t n (length es) r → r ≡ survey (line_of h t n es)
unfolding SurveyUnread
lent_surveyed h t n es r p = p ∙ survey_unread (line_of h t n es) (replicate (length es) 0) (length-replicate (length es) 0)
