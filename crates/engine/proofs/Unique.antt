-- Any two outcomes that the promise of a step allows are equal, and so for an order, opening and the survey.
use Rattle.std.proofs.Common.{◌≡◌, ℕ, List, sym, ap, ◌∙◌}
use Rattle.words.specs.declared.Answer.{Answer}
use Rattle.book.specs.Sizes.{Size}
use Rattle.book.specs.Steps.{Step}
use Rattle.line.specs.declared.Block.{Block}
use Rattle.line.specs.declared.Head.{Head}
use Rattle.line.specs.Calls.{Opening}
use Rattle.line.specs.Survey.{Surveyed}
use Rattle.byvalue.specs.declared.Outcome.{Outcome as OutcomeByValue}
use Rattle.byvalue.specs.GivenBack.{Given, given_back}
use Rattle.engine.specs.Promises.{GivesOpening, GivesStep, GivesOrder, GivesSurvey}

given_unique : {A : Type 0} (o : Given A) (r s : OutcomeByValue A) (fs gs : List ℕ) → given_back r fs ≡ o → given_back s gs ≡ o → (r ≡ s) × (fs ≡ gs)
given_unique {A} o r s fs gs p q =
    (ap (λ (g : Given A). record { answer = g.answer; head = g.head; table = g.table }) (p ∙ sym q), ap (λ (g : Given A). g.entries) (p ∙ sym q))

module _ (h : Head) (t : List Block) (n : ℕ) where
  pub step_unique : (es : List ℕ) (x : Step) (r s : OutcomeByValue Answer) (fs gs : List ℕ) → GivesStep h t n es x r fs → GivesStep h t n es x s gs → (r ≡ s) × (fs ≡ gs)
  step_unique es x = given_unique _

  pub order_unique : (es : List ℕ) (a b : ℕ) (r s : OutcomeByValue Answer) (fs gs : List ℕ) → GivesOrder h t n es a b r fs → GivesOrder h t n es a b s gs → (r ≡ s) × (fs ≡ gs)
  order_unique es a b = given_unique _

  pub opening_unique : (es : List ℕ) (z : Size) (r s : OutcomeByValue Opening) (fs gs : List ℕ) → GivesOpening h t n es z r fs → GivesOpening h t n es z s gs → (r ≡ s) × (fs ≡ gs)
  opening_unique es z = given_unique _

  pub survey_unique : (m : ℕ) (r s : Surveyed) → GivesSurvey h t n m r → GivesSurvey h t n m s → r ≡ s
  survey_unique m r s p q = p ∙ sym q
