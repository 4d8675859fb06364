-- Nothing is ever stuck, of the line's own answers: from every line that a run reaches, once each desk has fetched and finished what it
-- holds and the owner has got until EMPTY, every label placed has been handed over and the next label put is placed.
-- proofs/Clearing.antt has a proof of each statement, under the same name in small letters.
use Rattle.std.specs.Prelude.{◌≡◌, ◌⊎◌, List, [], ◌∷◌, ◌++◌, map, ℕ, suc, ◌+◌, ◌*◌, ◌≤◌, T, length, take, replicate}
use Rattle.words.specs.declared.Answer.{Answer}
use Rattle.words.specs.declared.Answer.TheVariants.{Put, Refused}
use Rattle.words.specs.declared.Refusal.TheVariants.{Worn, Busy, Empty}
use Rattle.book.specs.Sizes.{Size, fits, is_label, round_of}
use Rattle.book.specs.Steps.{Step}
use Rattle.book.specs.Counts.{placed, got, took}
use Rattle.book.specs.Messages.{put, get}
use Rattle.book.specs.Clearing.{settling}
use Rattle.line.specs.Line.{Line, size_of, desk_of, desk_at, opened}
use Rattle.line.specs.Rules.{held_in}
use Rattle.line.specs.Calls.{step, answers, after}

-- the owner gets as often as the line has entries, and once more
unfoldable pub emptying : Line → List Step
emptying l = replicate (suc (l.head.nb * l.head.ne)) get

-- the desks first fetch what they have claimed, and finish what they have fetched
unfoldable pub clearing : Line → List Step
clearing l = settling 0 (map desk_of (take l.head.t l.head.desks)) ++ emptying l

-- ---- what the put of label a answers on line e

module _ (e : Line) (a : ℕ) where
  abbrev pub IsPlaced : Type 0
  IsPlaced = (step e (put a)).answer ≡ Put a

  -- WORN, and turn P + 1 would have round 65,536
  abbrev pub IsWorn : Type 0
  IsWorn = ((step e (put a)).answer ≡ Refused Worn 0) × (round_of (size_of e.head) (e.head.p + 1) ≡ 65536)

  -- BUSY, and a desk holds a place of turn Q = P + 1 - NB, which is claimed or fetched and not finished
  abbrev pub IsBusy : Type 0
  IsBusy = ((step e (put a)).answer ≡ Refused Busy 0) × ((q : ℕ) × (q + e.head.nb ≡ e.head.p + 1) × (d : ℕ) × (held_in q (desk_at e.head d) ≡ 1))

-- ---- the statements

pub record LineClears (z : Size) (ss : List Step) (l : Line) : Type 0 where
  pub steps : length (clearing l) ≤ 2 * z.t + z.nb * z.ne + 1
  -- the last get is EMPTY
  pub empty : (m : List Answer) × (answers l (clearing l) ≡ m ++ (Refused Empty 0 ∷ []))
  -- of the whole run: every label placed was got or fetched
  pub all : let m = answers (opened z) (ss ++ clearing l) in placed m ≡ got m + took m
  -- the next label is placed, or the line is worn
  pub next : (a : ℕ) → T (is_label a) → IsPlaced (after l (clearing l)) a ⊎ IsWorn (after l (clearing l)) a

unfoldable pub LineNothingStuck : Type 0
LineNothingStuck = (z : Size) (ss : List Step) → T (fits z) → LineClears z ss (after (opened z) ss)

-- where the desks are silent, gets until EMPTY are enough, unless a desk still holds a place of the turn whose block is to be reused
unfoldable pub LineOnlyBusy : Type 0
LineOnlyBusy =
    (z : Size) (ss : List Step) (a : ℕ) → T (fits z) → T (is_label a)
    → let l = after (opened z) ss in
    let e = after l (emptying l) in
    IsPlaced e a ⊎ IsWorn e a ⊎ IsBusy e a
