-- Runs with the rows that gets hand over and the rows that go, the labels that come out and go in, and the run that clears what
-- is left, with its answers.
use Rattle.std.specs.Prelude.{◌≡◌, List, [], ◌∷◌, ◌++◌, ℕ, ◌/◌, filter}
use Rattle.words.specs.declared.Answer.{Answer}
use Rattle.words.specs.declared.Answer.TheVariants.{Put, Got, Took, Whole, Seen, Claimed, Done}
use Rattle.words.specs.declared.Refusal.TheVariants.{Empty}
use Rattle.book.specs.Choice.{◌≡ᵇ◌}
use Rattle.book.specs.Steps.{Step}
use Rattle.book.specs.Book.{opened, answers, after}
use Rattle.book.specs.Order.{Increasing, got_rows, went_rows, got_labels, placed_labels}
use Rattle.book.specs.Clearing.{clearing}
use Rattle.book.specs.Messages.{put, get, order, claim, fetch, finish, look}
use Rattle.book.specs.Cases.{Case, ◌⇒◌, no, on, listing}

pub record Lists : Type 0 where
  pub got : List ℕ
  pub went : List ℕ
  pub went_in_turn1 : List ℕ
  pub labels_out : List ℕ
  pub labels_in : List ℕ
  pub clears : List Step
  pub cleared : List Answer

pub record OrderCase : Type 0 where
  pub run : Case
  pub lists : Lists

abbrev pub lists_of : Case → Lists
lists_of c =
    let b = opened c.size in
    let e = after c.size b c.steps in
    record {
      got = got_rows c.size b c.steps;
      went = went_rows c.size b c.steps;
      went_in_turn1 = filter (λ n. n / c.size.ne ≡ᵇ 1) (went_rows c.size b c.steps);
      labels_out = got_labels c.steps c.answers;
      labels_in = placed_labels c.steps c.answers;
      clears = clearing e;
      -- and then label 9 is put
      cleared = answers c.size e (clearing e ++ (put 9 ∷ []));
    }

unfoldable pub order_cases : List OrderCase
order_cases =
    -- the listing: label 3 is claimed before 1 is got, and nothing is left
    record {
      run = listing;
      lists = record {
        got = 0 ∷ 1 ∷ 3 ∷ 4 ∷ 5 ∷ 6 ∷ [];
        went = 2 ∷ 0 ∷ 1 ∷ 3 ∷ 4 ∷ 5 ∷ 6 ∷ [];
        went_in_turn1 = 2 ∷ 3 ∷ [];
        labels_out = 1 ∷ 2 ∷ 4 ∷ 5 ∷ 6 ∷ 7 ∷ [];
        labels_in = 1 ∷ 2 ∷ 3 ∷ 4 ∷ 5 ∷ 6 ∷ 7 ∷ [];
        clears = get ∷ [];
        cleared = no Empty ∷ Put 9 ∷ [];
      };
    }
    -- desk 1 has claimed, desk 2 fetched, desk 3 looked, desk 0 is idle, and three labels wait
    ∷ record {
      run = on 2 3 4
          (order 11 16 ⇒ Whole 6 ∷ look 1 1 ⇒ Seen 0 ∷ claim 1 ⇒ Claimed 0 ∷ look 2 1 ⇒ Seen 1 ∷ claim 2 ⇒ Claimed 1
          ∷ fetch 2 ⇒ Took 15 ∷ look 3 1 ⇒ Seen 2 ∷ get ⇒ Got 11 ∷ []);
      lists = record {
        got = 0 ∷ [];
        went = 3 ∷ 4 ∷ 0 ∷ [];
        went_in_turn1 = 3 ∷ 4 ∷ [];
        labels_out = 11 ∷ [];
        labels_in = 11 ∷ 12 ∷ 13 ∷ 14 ∷ 15 ∷ 16 ∷ [];
        clears = fetch 1 ∷ finish 1 ∷ finish 2 ∷ get ∷ get ∷ get ∷ get ∷ [];
        cleared = Took 14 ∷ Done ∷ Done ∷ Got 12 ∷ Got 13 ∷ Got 16 ∷ no Empty ∷ Put 9 ∷ [];
      };
    }
    ∷ []

-- every case of a list has its answers and its lists
abbrev pub Meet : List OrderCase → Type 0
Meet [] = Unit {0}
Meet (c ∷ cs) = (answers c.run.size (opened c.run.size) c.run.steps ≡ c.run.answers) × (lists_of c.run ≡ c.lists) × Meet cs

-- a list that goes back, or stays, is not increasing
unfoldable pub OrderCases : Type 0
OrderCases = Meet order_cases × (Increasing (1 ∷ 3 ∷ 2 ∷ []) → ⊥) × (Increasing (0 ∷ 2 ∷ 2 ∷ []) → ⊥)
