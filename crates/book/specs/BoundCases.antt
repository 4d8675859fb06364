-- Runs that lose as many claims as demand 3 lets them: the labels placed, the claims won and lost, and the bound.
use Rattle.std.specs.Prelude.{◌≡◌, List, [], ◌∷◌, ℕ}
use Rattle.words.specs.declared.Answer.{Answer}
use Rattle.words.specs.declared.Answer.TheVariants.{Got, Took, Whole, Seen, Claimed, Done}
use Rattle.words.specs.declared.Refusal.TheVariants.{Lost, Empty}
use Rattle.book.specs.Sizes.{Size}
use Rattle.book.specs.Book.{from_opening}
use Rattle.book.specs.Counts.{placed, won, lost, bound}
use Rattle.book.specs.Messages.{get, order, claim, fetch, finish, look}
use Rattle.book.specs.Cases.{Case, ◌⇒◌, no, on, losing}

pub record Numbers : Type 0 where
  pub placed : ℕ
  pub won : ℕ
  pub lost : ℕ
  pub bound : ℕ

pub record BoundCase : Type 0 where
  pub run : Case
  pub numbers : Numbers

abbrev pub numbers_of : Size → List Answer → Numbers
numbers_of z l = record { placed = placed l; won = won l; lost = lost l; bound = bound z (won l) (placed l) }

unfoldable pub bound_cases : List BoundCase
bound_cases =
    -- NE 1, NB 2, T 1: put, put, look at 1, get, get, claim: LOST, where the bound is 1
    record { run = losing; numbers = record { placed = 2; won = 0; lost = 1; bound = 1 } }
    -- both desks look at one label, and one of them wins; both look at the next, and the owner takes the block over
    ∷ record {
      run = on 2 2 2
          (order 1 4 ⇒ Whole 4 ∷ look 0 1 ⇒ Seen 0 ∷ look 1 1 ⇒ Seen 0 ∷ claim 0 ⇒ Claimed 0 ∷ claim 1 ⇒ no Lost
          ∷ fetch 0 ⇒ Took 3 ∷ finish 0 ⇒ Done ∷ look 0 1 ⇒ Seen 1 ∷ look 1 1 ⇒ Seen 1
          ∷ get ⇒ Got 1 ∷ get ⇒ Got 2 ∷ get ⇒ Got 4 ∷ claim 0 ⇒ no Lost ∷ claim 1 ⇒ no Lost ∷ []);
      numbers = record { placed = 4; won = 1; lost = 3; bound = 3 };
    }
    -- none is placed
    ∷ record { run = on 2 1 16 (get ⇒ no Empty ∷ []); numbers = record { placed = 0; won = 0; lost = 0; bound = 0 } }
    ∷ []

-- every case of a list has its answers and its numbers
abbrev pub Meet : List BoundCase → Type 0
Meet [] = Unit {0}
Meet (c ∷ cs) =
    let l = from_opening c.run.size c.run.steps in
    (l ≡ c.run.answers) × (numbers_of c.run.size l ≡ c.numbers) × Meet cs

unfoldable pub BoundCases : Type 0
BoundCases = Meet bound_cases
