-- Any two outcomes that a call's promise allows are equal: the answers, and what is lent afterwards.
use Rattle.std.proofs.Common.{◌≡◌, ℕ, sym, ap, ◌∙◌}
use Rattle.words.specs.declared.Answer.{Answer}
use Rattle.words.specs.Words.{said}
use Rattle.book.specs.Sizes.{Size}
use Rattle.book.specs.Steps.{Step}
use Rattle.line.specs.Line.{Line}
use Rattle.line.specs.Check.{Checked}
use Rattle.line.specs.Calls.{Opening}
use Rattle.line.specs.Survey.{Surveyed}
use Rattle.portal.specs.Promises.{Told, ToldOpening, Opens, Steps, Orders, Checks, Surveys}
use Rattle.portal.proofs.Apart.{said_apart, opening_apart, check_apart, survey_apart}

-- one told thing is told of one line and one answer
told_unique : (o : Told) (r s : Answer) (l m : Line) → record { line = l; said = said r } ≡ o → record { line = m; said = said s } ≡ o → (r ≡ s) × (l ≡ m)
told_unique o r s l m p q = (said_apart r s (ap (λ (t : Told). t.said) (p ∙ sym q)), ap (λ (t : Told). t.line) (p ∙ sym q))

module _ (lent : Line) where
  pub opens_unique : (z : Size) (r s : Opening) (l m : Line) → Opens lent z r l → Opens lent z s m → (r ≡ s) × (l ≡ m)
  opens_unique z r s l m p q = (opening_apart r s (ap (λ (t : ToldOpening). t.said) (p ∙ sym q)), ap (λ (t : ToldOpening). t.line) (p ∙ sym q))

  pub steps_unique : (x : Step) (r s : Answer) (l m : Line) → Steps lent x r l → Steps lent x s m → (r ≡ s) × (l ≡ m)
  steps_unique x = told_unique _

  pub orders_unique : (first last : ℕ) (r s : Answer) (l m : Line) → Orders lent first last r l → Orders lent first last s m → (r ≡ s) × (l ≡ m)
  orders_unique first last = told_unique _

  pub checks_unique : (r s : Checked) → Checks lent r → Checks lent s → r ≡ s
  checks_unique r s p q = check_apart r s (p ∙ sym q)

  pub surveys_unique : (r s : Surveyed) → Surveys lent r → Surveys lent s → r ≡ s
  surveys_unique r s p q = survey_apart r s (p ∙ sym q)
