-- Any two outcomes that a call's promise allows are equal: the replies, and what is lent afterwards.
use Rattle.std.proofs.Common.{◌≡◌, ℕ, sym, ap, ◌∙◌}
use Rattle.book.specs.Sizes.{Size}
use Rattle.book.specs.Steps.{Step}
use Rattle.line.specs.Line.{Line}
use Rattle.lbq.specs.Replies.{Reply, CheckReply, SurveyReply}
use Rattle.lbq.specs.Promises.{Replied, RepliesOpening, RepliesStep, RepliesOrder, RepliesCheck, RepliesSurvey}

module _ (l : Line) where
  module _ (r s : Reply) (m n : Line) where
    replied_unique : (o : Replied) → record { line = m; reply = r } ≡ o → record { line = n; reply = s } ≡ o → (r ≡ s) × (m ≡ n)
    replied_unique o p q = (ap (λ (o : Replied). o.reply) (p ∙ sym q), ap (λ (o : Replied). o.line) (p ∙ sym q))

    pub opening_unique : (z : Size) → RepliesOpening l z r m → RepliesOpening l z s n → (r ≡ s) × (m ≡ n)
    opening_unique z = replied_unique _

    pub step_unique : (x : Step) → RepliesStep l x r m → RepliesStep l x s n → (r ≡ s) × (m ≡ n)
    step_unique x = replied_unique _

    pub order_unique : (first last : ℕ) → RepliesOrder l first last r m → RepliesOrder l first last s n → (r ≡ s) × (m ≡ n)
    order_unique first last = replied_unique _

  pub check_unique : (r s : CheckReply) → RepliesCheck l r → RepliesCheck l s → r ≡ s
  check_unique r s p q = p ∙ sym q

  pub survey_unique : (r s : SurveyReply) → RepliesSurvey l r → RepliesSurvey l s → r ≡ s
  survey_unique r s p q = p ∙ sym q
