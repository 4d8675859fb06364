-- The line: head, block table and entries, and what each step does to them. Turn t stands in block t mod NB.
use Rattle.std.specs.Prelude.{Bool, not, ◌&&◌, List, ℕ, zero, suc, ◌+◌, ◌-◌, ◌*◌, get_or, set, replicate, if◌then◌else◌}
use Rattle.words.specs.declared.Answer.{Answer}
use Rattle.words.specs.declared.Answer.TheVariants.{Put, Got, Took, Whole, Seen, Claimed, Done, Refused}
use Rattle.words.specs.declared.Refusal.{Refusal}
use Rattle.words.specs.declared.Refusal.TheVariants.{Badstep, Lost, Range, Empty}
use Rattle.book.specs.Choice.{◌<ᵇ◌, ◌≡ᵇ◌}
use Rattle.book.specs.Sizes.{Size, is_order, block_of, round_of, current_turn, is_owned}
use Rattle.book.specs.declared.DeskStep.{DeskStep}
use Rattle.book.specs.declared.DeskStep.TheVariants.{Look as look, Claim as claim, Fetch as fetch, Finish as finish}
use Rattle.book.specs.declared.Deed.{Deed}
use Rattle.book.specs.declared.Deed.TheVariants.{Put as put, Get as get, Order as order, Desk as desk, Unlisted as unlisted}
use Rattle.book.specs.Steps.{Hold, Desk, idle, looked, holding, claimed_at, with_fetched, hold_of}
use Rattle.book.specs.Verdicts.{Verdict, judge, stage, admitted, lookable, placeable}
pub use Rattle.line.specs.declared.Desk.{Desk as LentDesk}
pub use Rattle.line.specs.declared.Block.{Block}
pub use Rattle.line.specs.declared.Head.{Head}
pub use Rattle.line.specs.declared.Room.{Room}
pub use Rattle.line.specs.declared.Moved.{Moved}

pub record Line : Type 0 where
  pub head : Head
  pub table : List Block
  pub entries : List ℕ

abbrev pub size_of : Head → Size
size_of h = record { nb = h.nb; ne = h.ne; t = h.t }

-- what a step gives: the line after it, and the answer
pub record Outcome : Type 0 where
  pub line : Line
  pub answer : Answer

abbrev pub says : Line → Answer → Outcome
says l a = record { line = l; answer = a }

abbrev pub refuse : Line → Refusal → Outcome
refuse l w = says l (Refused w 0)

-- ---- a desk, read off its numbers and written back; an idle desk is written as zeros

pub record Spot : Type 0 where
  pub turn : ℕ
  pub place : ℕ

abbrev pub nowhere : Spot
nowhere = record { turn = 0; place = 0 }

abbrev pub spot_of : LentDesk → Spot
spot_of x = record { turn = x.turn; place = x.place }

unfoldable pub desk_of : LentDesk → Desk Spot
desk_of x =
    let claimed = claimed_at (spot_of x) in
    if x.stage ≡ᵇ 1 then looked (spot_of x)
    else if x.stage ≡ᵇ 2 then holding claimed
    else if x.stage ≡ᵇ 3 then holding (with_fetched claimed)
    else idle

abbrev pub numbers_of : Desk Spot → LentDesk
numbers_of x = let s = (hold_of nowhere x).at in record { stage = stage x; place = s.place; turn = s.turn }

abbrev pub desk_at : Head → ℕ → Desk Spot
desk_at h d = desk_of (get_or h.desks d (numbers_of idle))

-- ---- a changed head, record, line

abbrev pub put_at : Head → ℕ → Head
put_at h p = record h { p = p }

abbrev pub get_at : Head → Spot → Head
get_at h s = record h { reading = s.place; k = s.turn }

abbrev pub with_numbers : Head → ℕ → LentDesk → Head
with_numbers h d x = record h { desks = set h.desks d x }

abbrev pub with_desk : Head → ℕ → Desk Spot → Head
with_desk h d x = with_numbers h d (numbers_of x)

abbrev pub unused : Block
unused = record { round = 0; written = 0; claimed = 0; finished = 0 }

-- of a turn that a put starts
abbrev pub new_turn : ℕ → Block
new_turn r = record { round = r; written = 1; claimed = 0; finished = 0 }

abbrev pub one_written : Block → Block
one_written c = record c { written = suc c.written }

abbrev pub one_claimed : Block → Block
one_claimed c = record c { claimed = suc c.claimed }

abbrev pub one_finished : Block → Block
one_finished c = record c { finished = suc c.finished }

-- claimed is above finished: a desk has claimed or fetched there and not finished
abbrev pub is_busy : Block → Bool
is_busy c = c.finished <ᵇ c.claimed

abbrev pub with_head : Line → Head → Line
with_head l h = record l { head = h }

-- ---- what a desk's step leaves of the desk and of the one record that it reads; here of the two steps that no test decides

abbrev pub moved : Answer → LentDesk → Block → Moved
moved a x c = record { answer = a; desk = x; block = c }

abbrev pub fetch_of : Block → Hold Spot → ℕ → Moved
fetch_of c h label = moved (Took label) (numbers_of (holding (with_fetched h))) c

abbrev pub finish_of : Block → Moved
finish_of c = moved Done (numbers_of idle) (one_finished c)

module _ (z : Size) where
  -- the record of turn t's block, and where the entries have its places
  unfoldable pub record_of : List Block → ℕ → Block
  record_of tb t = get_or tb (block_of z t) unused

  unfoldable pub entry_of : ℕ → ℕ → ℕ
  entry_of t place = block_of z t * z.ne + place

  unfoldable pub label_at : List ℕ → Spot → ℕ
  label_at es s = get_or es (entry_of s.turn s.place) 0

  -- ---- put and order

  unfoldable pub may_put : Line → ℕ → Verdict
  may_put l a =
      let p = l.head.p in
      placeable z p (record_of l.table p).written l.head.k (is_busy (record_of l.table (p + 1 - z.nb))) a

  -- where a put's label goes: into turn P, whose record is c, or into turn P + 1
  abbrev pub room : ℕ → ℕ → Block → Room
  room t place c = record { turn = t; block = block_of z t; place = place; after = c }

  unfoldable pub room_of : ℕ → Block → Room
  room_of p c = if c.written <ᵇ z.ne then room p c.written (one_written c) else room (p + 1) 0 (new_turn (round_of z (p + 1)))

  abbrev pub labelled : Line → ℕ → Room → Line
  labelled l a r = record {
    head = put_at l.head r.turn;
    table = set l.table r.block r.after;
    entries = set l.entries (entry_of r.turn r.place) a;
  }

  unfoldable pub with_label : Line → ℕ → Line
  with_label l a = labelled l a (room_of l.head.p (record_of l.table l.head.p))

  unfoldable pub put_step : Line → ℕ → Outcome
  put_step l a = judge (may_put l a) (says (with_label l a) (Put a)) (refuse l)

  -- puts n labels from a on, count of the order being placed, until one is refused
  unfoldable pub put_many : ℕ → Line → ℕ → ℕ → Outcome
  put_many zero l a count = says l (Whole count)
  put_many (suc n) l a count =
      let more = put_many n (with_label l a) (suc a) (suc count) in
      judge (may_put l a) more (λ w. says l (Refused w count))

  unfoldable pub order_step : Line → ℕ → ℕ → Outcome
  order_step l a e = if is_order a e then put_many (suc e - a) l a 0 else refuse l Range

  -- ---- get

  -- no label of turn K, whose record is c, is left to read from spot s on; the place is NE and K < P
  unfoldable pub moves_on : ℕ → Block → Spot → Bool
  moves_on p c s = not (s.place <ᵇ c.written) && (s.place ≡ᵇ z.ne && s.turn <ᵇ p)

  -- the spot at which the owner takes the next turn over: claimed of its block
  abbrev pub taken_over : List Block → Spot → Spot
  taken_over tb s = record { turn = suc s.turn; place = (record_of tb (suc s.turn)).claimed }

  -- where a get reads, with n moves left
  unfoldable pub reach : ℕ → List Block → ℕ → Spot → Spot
  reach zero tb p s = s
  reach (suc n) tb p s =
      let on = reach n tb p (taken_over tb s) in
      if moves_on p (record_of tb s.turn) s then on else s

  unfoldable pub read_at : Line → Spot → Outcome
  read_at l s =
      if s.place <ᵇ (record_of l.table s.turn).written
      then says (with_head l (get_at l.head (record { turn = s.turn; place = suc s.place }))) (Got (label_at l.entries s))
      else says (with_head l (get_at l.head s)) (Refused Empty 0)

  unfoldable pub get_step : Line → Outcome
  get_step l = read_at l (reach (z.nb - 1) l.table l.head.p (record { turn = l.head.k; place = l.head.reading }))

  -- ---- a desk's step, over P and K, the record c of the block that it reads, and what the desk saw or holds

  -- the desk sees the block's current turn and its claimed number; a desk that is refused stays as it was
  unfoldable pub look_of : ℕ → ℕ → ℕ → Block → LentDesk → Moved
  look_of p k i c x =
      let seen : Desk Spot = looked (record { turn = current_turn z p i; place = c.claimed }) in
      judge (lookable z p k i (not (c.claimed ≡ᵇ c.written))) (moved (Seen c.claimed) (numbers_of seen) c) (λ w. moved (Refused w 0) x c)

  -- the turn seen is still its block's current one, the block is not owned, and claimed is still the place seen
  unfoldable pub wins : ℕ → ℕ → Block → Spot → Bool
  wins p k c s =
      current_turn z p (block_of z s.turn) ≡ᵇ s.turn && not (is_owned z p k (block_of z s.turn)) && c.claimed ≡ᵇ s.place

  unfoldable pub claim_of : ℕ → ℕ → Block → Spot → Moved
  claim_of p k c s =
      if wins p k c s then moved (Claimed s.place) (numbers_of (holding (claimed_at s))) (one_claimed c)
      else moved (Refused Lost 0) (numbers_of idle) c

  -- the turn whose record a step reads: the current one of a look's block, or that of the desk
  abbrev pub turn_read : ℕ → ℕ → DeskStep → ℕ
  turn_read p t (look i) = current_turn z p i
  turn_read p t claim = t
  turn_read p t fetch = t
  turn_read p t finish = t

  -- desk x, in numbers, holds h or saw what h says
  unfoldable pub moved_by : DeskStep → ℕ → ℕ → List ℕ → Block → LentDesk → Hold Spot → Moved
  moved_by (look i) p k es c x h = look_of p k i c x
  moved_by claim p k es c x h = claim_of p k c h.at
  moved_by fetch p k es c x h = fetch_of c h (label_at es h.at)
  moved_by finish p k es c x h = finish_of c

  -- ---- the desks' steps on a line: one desk and one record change

  abbrev pub with_moved : Line → ℕ → ℕ → Moved → Outcome
  with_moved l d t m =
      says (record l { head = with_numbers l.head d m.desk; table = set l.table (block_of z t) m.block }) m.answer

  -- the step of desk d, which the grid lets it take, with what it holds, or saw
  unfoldable pub desk_does : Line → ℕ → Hold Spot → DeskStep → Outcome
  desk_does l d h s =
      let t = turn_read l.head.p h.at.turn s in
      let x = get_or l.head.desks d (numbers_of idle) in
      with_moved l d t (moved_by s l.head.p l.head.k l.entries (record_of l.table t) x h)

  unfoldable pub desk_step : Line → ℕ → DeskStep → Desk Spot → Outcome
  desk_step l d s x = judge (admitted z d s x) (desk_does l d (hold_of nowhere x) s) (refuse l)

  -- a step on a sound line
  unfoldable pub does : Line → Deed → Outcome
  does l (put a) = put_step l a
  does l get = get_step l
  does l (order a e) = order_step l a e
  does l (desk d s) = desk_step l d s (desk_at l.head d)
  does l unlisted = refuse l Badstep

  unfoldable pub opened : Line
  opened = record {
    head = record { nb = z.nb; ne = z.ne; t = z.t; reading = 0; p = 0; k = 0; desks = replicate 16 (numbers_of idle) };
    table = replicate z.nb unused;
    entries = replicate (z.nb * z.ne) 0;
  }

-- ---- of a line: its size, and the record of turn t's block

abbrev pub size_in : Line → Size
size_in l = size_of l.head

abbrev pub here : Line → ℕ → Block
here l t = record_of (size_in l) l.table t
