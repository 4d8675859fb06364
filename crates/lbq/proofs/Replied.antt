-- From the portal's call to the exported one: what the portal tells at the narrowed numbers, and the reply that is made
-- of it, are what is promised at the numbers as they were given.
use Rattle.std.proofs.Common.{ℕ, ap, ◌∙◌}
use Rattle.words.specs.declared.Answer.{Answer}
use Rattle.book.specs.Sizes.{Size}
use Rattle.line.specs.Line.{Line}
use Rattle.line.specs.Calls.{Opening}
use Rattle.portal.specs.Promises.{told, told_opening, the_step, Opens, Steps, Orders}
use Rattle.lbq.specs.Narrow.{narrow_code}
use Rattle.lbq.specs.Replies.{of_answer, of_opening}
use Rattle.lbq.specs.Promises.{replied_opening, replied, RepliesOpening, RepliesStep, RepliesOrder}
use Rattle.lbq.proofs.Narrowed.{code_narrowed, narrowed, size_narrowed}

module _ (l m : Line) where
  pub opened : (y : Opening) (z : Size) → Opens l (narrowed z) y m → RepliesOpening l z (of_opening y) m
  opened y z e = ap replied_opening (e ∙ ap told_opening (size_narrowed l z))

  pub stepped : (y : Answer) (c a b : ℕ) → Steps l (the_step (narrow_code c) a b) y m → RepliesStep l (the_step c a b) (of_answer y) m
  stepped y c a b e = ap replied (e ∙ ap told (code_narrowed a b l c))

  pub ordered : (y : Answer) (first last : ℕ) → Orders l first last y m → RepliesOrder l first last (of_answer y) m
  ordered y first last e = ap replied e
