-- Entries are not checked: no rule reads one, and no look does.
use Rattle.std.proofs.Common.{◌≡◌, ℕ, zero, suc, Bool, List, [], ◌∷◌, Ok, Err, refl, ap, ap₂}
use Rattle.words.specs.declared.Answer.{Answer}
use Rattle.book.specs.declared.DeskStep.TheVariants.{Look as look}
use Rattle.book.specs.Verdicts.{Verdict, judge, admitted}
use Rattle.book.specs.Steps.{idle}
use Rattle.line.specs.Line.{Line, Outcome, size_of, refuse, moved_by, desk_does, desk_step}
use Rattle.line.specs.Rules.{Rule, rule1, rule2, rule3, rule4, rule5, rule6, rule7, RuleAt, in_order}
use Rattle.line.specs.Check.{Checked, fit, holds, first_broken, check}
use Rattle.line.specs.Survey.{is_seen, seen_from, views, surveyed, surveys, survey}
use Rattle.line.specs.Demands.{with_entries, CheckUnread, SurveyUnread}

module _ (l : Line) (es : List ℕ) where
  abbrev other : Line
  other = with_entries l es

  holds_unread : (i : ℕ) (r : Rule) → holds other i r ≡ holds l i r
  unfolding holds
  holds_unread i rule1 = refl
  holds_unread i rule2 = refl
  holds_unread i rule3 = refl
  holds_unread i rule4 = refl
  holds_unread i rule5 = refl
  holds_unread i rule6 = refl
  holds_unread i rule7 = refl

  pub broken_unread : (qs : List RuleAt) → first_broken other qs ≡ first_broken l qs
  unfolding first_broken
  broken_unread [] = refl
  broken_unread (q ∷ qs) = rw (holds_unread q.place q.rule, broken_unread qs) refl

  answer_unread : (v : Verdict) (o p : Outcome) → o.answer ≡ p.answer → (judge v o (refuse other)).answer ≡ (judge v p (refuse l)).answer
  answer_unread (Ok u) o p e = e
  answer_unread (Err w) o p e = refl

  look_unread : (i : ℕ) → (desk_step (size_of l.head) other 0 (look i) idle).answer ≡ (desk_step (size_of l.head) l 0 (look i) idle).answer
  unfolding desk_step desk_does moved_by
  look_unread i = answer_unread (admitted (size_of l.head) 0 (look i) idle) _ _ refl

  from_unread : (i n : ℕ) → seen_from other i n ≡ seen_from l i n
  unfolding seen_from
  from_unread i zero = refl
  from_unread i (suc n) = ap₂ (λ (a : Answer) (bs : List Bool). is_seen a ∷ bs) (look_unread i) (from_unread (suc i) n)

  surveys_unread : (c : Checked) → surveys other c ≡ surveys l c
  unfolding surveys
  surveys_unread (Ok u) = ap (λ (bs : List Bool). surveyed (views bs)) (from_unread 0 l.head.nb)
  surveys_unread (Err f) = refl

pub check_unread : CheckUnread
unfolding CheckUnread check fit
check_unread l es e = rw (e, broken_unread l es (in_order l.head.nb)) refl

pub survey_unread : SurveyUnread
unfolding SurveyUnread CheckUnread survey
survey_unread l es e = rw (check_unread l es e) (surveys_unread l es (check l))
