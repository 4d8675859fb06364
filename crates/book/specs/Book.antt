-- The book: the meaning of the steps. A list of labels in the order placed, row n belonging to turn n div NE, a mark on
-- each row, the get turn K, and the desks with row numbers. Rows are never reused.
use Rattle.std.specs.Prelude.{Bool, true, false, not, ◌&&◌, List, [], ◌∷◌, ◌++◌, ℕ, zero, suc, ◌+◌, ◌-◌, ◌*◌, ◌/◌, ◌%◌, length, get_or, set, take, drop, replicate, if◌then◌else◌}
use Rattle.words.specs.declared.Answer.{Answer}
use Rattle.words.specs.declared.Answer.TheVariants.{Put, Got, Took, Whole, Seen, Claimed, Done, Refused}
use Rattle.words.specs.declared.Refusal.{Refusal}
use Rattle.words.specs.declared.Refusal.TheVariants.{Unfit, Badstep, Lost, Range, Empty}
use Rattle.book.specs.Choice.{◌<ᵇ◌, ◌≡ᵇ◌}
use Rattle.book.specs.Total.{any}
use Rattle.book.specs.Sizes.{Size, fits, is_order, current_turn}
use Rattle.book.specs.Steps.{Step, DeskStep, look, claim, fetch, finish, Deed, put, get, order, desk, unlisted, decode}
use Rattle.book.specs.Steps.{Hold, Desk, idle, looked, holding, claimed_at, with_fetched, hold_of}
use Rattle.book.specs.Verdicts.{Verdict, judge, admitted, lookable, placeable}

-- a row is waiting or gone
pub record Row : Type 0 where
  pub label : ℕ
  pub gone : Bool

pub record Book : Type 0 where
  pub rows : List Row
  pub k : ℕ
  pub desks : List (Desk ℕ)

-- what a step gives: the book after it, the answer, and the rows whose labels it handed over
pub record Outcome : Type 0 where
  pub book : Book
  pub answer : Answer
  pub left : List ℕ

abbrev pub says : Book → Answer → Outcome
says b a = record { book = b; answer = a; left = [] }

abbrev pub hands : Book → Answer → ℕ → Outcome
hands b a n = record { book = b; answer = a; left = n ∷ [] }

abbrev pub refuse : Book → Refusal → Outcome
refuse b w = says b (Refused w 0)

-- a row past the end reads as a waiting one
abbrev pub row_at : List Row → ℕ → Row
row_at rs n = get_or rs n (record { label = 0; gone = false })

abbrev pub desk_at : Book → ℕ → Desk ℕ
desk_at b d = get_or b.desks d idle

abbrev pub with_desk : Book → ℕ → Desk ℕ → Book
with_desk b d x = record b { desks = set b.desks d x }

abbrev pub append : Book → ℕ → Book
append b a = record b { rows = b.rows ++ (record { label = a; gone = false } ∷ []) }

unfoldable pub mark_gone : List Row → ℕ → List Row
mark_gone rs n = set rs n (record (row_at rs n) { gone = true })

-- how many rows stand before the first that waits
unfoldable pub gone_before : List Row → ℕ
gone_before [] = 0
gone_before (r ∷ rs) = let more = suc (gone_before rs) in if r.gone then more else 0

module _ (z : Size) where
  -- ---- turns over the rows

  -- P is (length - 1) div NE, and so 0 while the list is empty
  unfoldable pub put_turn : List Row → ℕ
  put_turn rs = (length rs - 1) / z.ne

  abbrev pub row_of : ℕ → ℕ → ℕ
  row_of t place = t * z.ne + place

  unfoldable pub rows_of : List Row → ℕ → List Row
  rows_of rs t = take z.ne (drop (t * z.ne) rs)

  unfoldable pub written : List Row → ℕ → ℕ
  written rs t = length (rows_of rs t)

  -- the place of the first waiting row, and written where none waits
  unfoldable pub first : List Row → ℕ → ℕ
  first rs t = gone_before (rows_of rs t)

  unfoldable pub waits : List Row → ℕ → Bool
  waits rs t = first rs t <ᵇ written rs t

  -- ---- put and order

  -- has this desk claimed or fetched a row of turn q, and not finished
  unfoldable pub held_in : ℕ → Desk ℕ → Bool
  held_in q idle = false
  held_in q (looked r) = false
  held_in q (holding h) = h.at / z.ne ≡ᵇ q

  unfoldable pub is_busy : Book → ℕ → Bool
  is_busy b q = any (held_in q) b.desks

  unfoldable pub may_put : Book → ℕ → Verdict
  may_put b a =
      let p = put_turn b.rows in
      placeable z p (written b.rows p) b.k (is_busy b (p + 1 - z.nb)) a

  unfoldable pub put_step : Book → ℕ → Outcome
  put_step b a = judge (may_put b a) (says (append b a) (Put a)) (refuse b)

  -- puts n labels from a on, count of the order being placed, until one is refused
  unfoldable pub put_many : ℕ → Book → ℕ → ℕ → Outcome
  put_many zero b a count = says b (Whole count)
  put_many (suc n) b a count =
      let more = put_many n (append b a) (suc a) (suc count) in
      judge (may_put b a) more (λ w. says b (Refused w count))

  unfoldable pub order_step : Book → ℕ → ℕ → Outcome
  order_step b a e = if is_order a e then put_many (suc e - a) b a 0 else refuse b Range

  -- ---- get

  -- K moves on while no row of its turn waits, at most n turns
  unfoldable pub read_turn : ℕ → List Row → ℕ → ℕ
  read_turn zero rs k = k
  read_turn (suc n) rs k = let next = read_turn n rs (suc k) in if waits rs k then k else next

  unfoldable pub get_at : Book → ℕ → Outcome
  get_at b t =
      let n = row_of t (first b.rows t) in
      if waits b.rows t
      then hands (record b { rows = mark_gone b.rows n; k = t }) (Got (row_at b.rows n).label) n
      else says (record b { k = t }) (Refused Empty 0)

  unfoldable pub get_step : Book → Outcome
  get_step b = get_at b (read_turn (put_turn b.rows - b.k) b.rows b.k)

  -- ---- the desks' steps

  -- the desk sees the first waiting row of the block's current turn
  unfoldable pub look_step : Book → ℕ → ℕ → Outcome
  look_step b d i =
      let p = put_turn b.rows in
      let t = current_turn z p i in
      let place = first b.rows t in
      judge (lookable z p b.k i (waits b.rows t)) (says (with_desk b d (looked (row_of t place))) (Seen place)) (refuse b)

  -- a claim is won exactly if the row seen still waits and its turn is above K
  unfoldable pub winnable : List Row → ℕ → ℕ → Bool
  winnable rs k r = not (row_at rs r).gone && k <ᵇ r / z.ne

  unfoldable pub claim_step : Book → ℕ → ℕ → Outcome
  claim_step b d r =
      if winnable b.rows b.k r
      then says (record b { rows = mark_gone b.rows r; desks = set b.desks d (holding (claimed_at r)) }) (Claimed (r % z.ne))
      else says (with_desk b d idle) (Refused Lost 0)

  unfoldable pub fetch_step : Book → ℕ → Hold ℕ → Outcome
  fetch_step b d h = hands (with_desk b d (holding (with_fetched h))) (Took (row_at b.rows h.at).label) h.at

  unfoldable pub finish_step : Book → ℕ → Outcome
  finish_step b d = says (with_desk b d idle) Done

  -- the step of desk d, which the grid lets it take, with what it holds, or saw
  unfoldable pub desk_does : Book → ℕ → Hold ℕ → DeskStep → Outcome
  desk_does b d h (look i) = look_step b d i
  desk_does b d h claim = claim_step b d h.at
  desk_does b d h fetch = fetch_step b d h
  desk_does b d h finish = finish_step b d

  unfoldable pub desk_step : Book → ℕ → DeskStep → Desk ℕ → Outcome
  desk_step b d s x = judge (admitted z d s x) (desk_does b d (hold_of 0 x) s) (refuse b)

  -- ---- a step, and runs

  unfoldable pub does : Book → Deed → Outcome
  does b (put a) = put_step b a
  does b get = get_step b
  does b (order a e) = order_step b a e
  does b (desk d s) = desk_step b d s (desk_at b d)
  does b unlisted = refuse b Badstep

  unfoldable pub step : Book → Step → Outcome
  step b s = does b (decode s)

  unfoldable pub opened : Book
  opened = record { rows = []; k = 0; desks = replicate z.t idle }

  -- the answers of a run, the book after it, and the rows whose labels it handed over
  unfoldable pub answers : Book → List Step → List Answer
  answers b [] = []
  answers b (s ∷ ss) = (step b s).answer ∷ answers (step b s).book ss

  unfoldable pub after : Book → List Step → Book
  after b [] = b
  after b (s ∷ ss) = after (step b s).book ss

  unfoldable pub leaves : Book → List Step → List ℕ
  leaves b [] = []
  leaves b (s ∷ ss) = (step b s).left ++ leaves (step b s).book ss

  -- a run from opening, where the numbers are within their limits
  unfoldable pub from_opening : List Step → List Answer
  from_opening ss = if fits z then answers opened ss else Refused Unfit 0 ∷ []
