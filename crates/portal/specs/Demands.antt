-- The demands, of the calls themselves: whatever outcomes their promises allow. proofs/Demands.antt has a proof of
-- each, under the same name in small letters.
use Rattle.std.specs.Prelude.{◌≡◌, ◌≢◌, ◌↔◌, List, [], ◌∷◌, map, ℕ, ◌+◌, ◌≤◌, ◌<◌, T, length, if◌then◌else◌}
use Rattle.words.specs.declared.Answer.{Answer}
use Rattle.words.specs.declared.Answer.TheVariants.{Seen, Refused}
use Rattle.words.specs.declared.Refusal.{Refusal}
use Rattle.words.specs.declared.Refusal.TheVariants.{Lost, Empty}
use Rattle.book.specs.Sizes.{Size}
use Rattle.book.specs.declared.DeskStep.TheVariants.{Look as look, Claim as claim}
use Rattle.book.specs.declared.Deed.{Deed}
use Rattle.book.specs.declared.Deed.TheVariants.{Get as get, Order as order, Desk as desk}
use Rattle.book.specs.Steps.{Step, idle, decode, Hold, holding}
use Rattle.book.specs.Book as B
use Rattle.book.specs.Counts.{placed, got, took, won, lost, unfetched, times_held, waiting, handed, times, times_unfetched, times_waiting, bound}
use Rattle.book.specs.Order.{placed_labels}
use Rattle.line.specs.declared.Block.{Block}
use Rattle.line.specs.declared.Head.{Head}
use Rattle.line.specs.declared.Findings.{Findings}
use Rattle.line.specs.Line.{Line, says, size_of, desk_at, desk_step, get_at, with_desk, with_head, record_of, opened}
use Rattle.line.specs.Rules.{Sound}
use Rattle.line.specs.Check.{Checked, sound, unfit, broken as broken_at, fit}
use Rattle.line.specs.Calls.{Opening, open·line, open·unfit}
use Rattle.line.specs.Survey.{Surveyed, surveyed, survey·unfit, survey·damaged, found}
use Rattle.line.specs.Refusals.{When}
use Rattle.line.specs.Demands.{FirstBroken, Guarded, Ordered, bit_at, ones, LeastBit}
use Rattle.portal.specs.Promises.{lent, Opens, Steps, Orders, Checks, Surveys}

abbrev Fit : Line → Type 0
Fit l = T (fit (size_of l.head) l.table l.entries)

-- ---- demand 1: opening, and what is refused before anything is read

pub record OpeningSays (lent : Line) (z : Size) (r : Opening) (l : Line) : Type 0 where
  pub answer : (r ≡ open·line) ↔ T (fit z lent.table lent.entries)
  pub unfit : (r ≡ open·unfit) ↔ (T (fit z lent.table lent.entries) → ⊥)
  pub fresh : r ≡ open·line → l ≡ opened z
  pub left : r ≡ open·unfit → l ≡ lent

unfoldable pub OpeningTold : Type 0
OpeningTold = (lent l : Line) (z : Size) (r : Opening) → Opens lent z r l → OpeningSays lent z r l

unfoldable pub StepGuarded : Type 0
StepGuarded = (l m : Line) (s : Step) (r : Answer) → Steps l s r m → Guarded l (says m r)

unfoldable pub OrderGuarded : Type 0
OrderGuarded = (l m : Line) (first last : ℕ) (r : Answer) → Orders l first last r m → Guarded l (says m r)

-- ---- demand 1: each refusal exactly when the paper says, and what it leaves

abbrev NoOrder : Deed → Type 0
NoOrder e = (a b : ℕ) → e ≢ order a b

-- of a step that is no order, on any line: each refusal leaves table and entries, and the line but for LOST and EMPTY
pub record RefusalLeaves (l m : Line) (r : Answer) : Type 0 where
  pub left : (w : Refusal) (n : ℕ) → r ≡ Refused w n → w ≢ Lost → w ≢ Empty → m ≡ l
  pub head_alone : (w : Refusal) (n : ℕ) → r ≡ Refused w n → (m.table ≡ l.table) × (m.entries ≡ l.entries)

unfoldable pub StepRefusedLeaves : Type 0
StepRefusedLeaves = (l m : Line) (s : Step) (r : Answer) → Steps l s r m → NoOrder (decode s) → RefusalLeaves l m r

-- on a sound line: when each is given; LOST leaves the desk idle; EMPTY keeps the moves
pub record RefusalSays (l m : Line) (s : Step) (r : Answer) : Type 0 where
  pub when : (w : Refusal) (n : ℕ) → (r ≡ Refused w n) ↔ (When l w (decode s) × (n ≡ 0))
  pub lost : (n : ℕ) → r ≡ Refused Lost n → (d : ℕ) × (decode s ≡ desk d claim) × (m ≡ with_head l (with_desk l.head d idle))
  pub empty : (n : ℕ) → decode s ≡ get → r ≡ Refused Empty n
      → let p = l.head.p in
      m ≡ with_head l (get_at l.head (record { turn = p; place = (record_of (size_of l.head) l.table p).written }))

unfoldable pub StepRefusedWhen : Type 0
StepRefusedWhen = (l m : Line) (s : Step) (r : Answer) → Steps l s r m → Fit l → Sound l → NoOrder (decode s) → RefusalSays l m s r

unfoldable pub OrderRefusedWhen : Type 0
OrderRefusedWhen = (l m : Line) (first last : ℕ) (r : Answer) → Orders l first last r m → Fit l → Sound l → Ordered l first last (says m r)

-- ---- demand 1: the check

pub record CheckSays (l : Line) (r : Checked) : Type 0 where
  pub unfit : (r ≡ unfit) ↔ (Fit l → ⊥)
  pub sound : (r ≡ sound) ↔ (Fit l × Sound l)
  pub broken : (place rule : ℕ) → r ≡ broken_at place rule → Fit l × FirstBroken l place rule
  -- and the other way: the first rule that is broken is named, with its place
  pub first : (place rule : ℕ) → Fit l → FirstBroken l place rule → r ≡ broken_at place rule

unfoldable pub CheckTold : Type 0
CheckTold = (l : Line) (r : Checked) → Checks l r → CheckSays l r

-- of the entries it matters only how many there are, to the check and to the survey
unfoldable pub CheckUnread : Type 0
CheckUnread =
    (h : Head) (t : List Block) (es fs : List ℕ) (r s : Checked) → length es ≡ length fs
    → Checks (lent h t es) r → Checks (lent h t fs) s → r ≡ s

unfoldable pub SurveyUnread : Type 0
SurveyUnread =
    (h : Head) (t : List Block) (es fs : List ℕ) (v w : Surveyed) → length es ≡ length fs
    → Surveys (lent h t es) v → Surveys (lent h t fs) w → v ≡ w

-- ---- demand 2: a line is opened in whatever was lent, and then steps and orders are called, each lent what the one
-- before left

pub data Call : Type 0 where
  stepped : Step → Call
  ordered : ℕ → ℕ → Call

-- an order is the step of code 2
abbrev pub as_step : Call → Step
as_step (stepped s) = s
as_step (ordered first last) = record { code = 2; a = first; b = last }

abbrev pub Allows : Line → Call → Answer → Line → Type 0
Allows l (stepped s) r m = Steps l s r m
Allows l (ordered first last) r m = Orders l first last r m

-- from line l the calls are answered so, and m is left
abbrev pub Runs : Line → List Call → List Answer → Line → Type 0
Runs l [] [] m = l ≡ m
Runs l [] (r ∷ rs) m = ⊥
Runs l (c ∷ cs) [] m = ⊥
Runs l (c ∷ cs) (r ∷ rs) m = (k : Line) × Allows l c r k × Runs k cs rs m

pub record Run (z : Size) (cs : List Call) (rs : List Answer) (m : Line) : Type 0 where
  pub lent : Line
  pub line : Line
  pub opens : Opens lent z open·line line
  pub runs : Runs line cs rs m

-- each answer is the one that the book gives
unfoldable pub Demand2 : Type 0
Demand2 = (z : Size) (cs : List Call) (rs : List Answer) (m : Line) → Run z cs rs m → rs ≡ B.answers z (B.opened z) (map as_step cs)

-- labels placed = got + fetched + claimed but unfetched + waiting, and no row's label leaves twice
unfoldable pub Counted : Type 0
Counted =
    (z : Size) (cs : List Call) (rs : List Answer) (m : Line) → Run z cs rs m
    → let book = B.after z (B.opened z) (map as_step cs) in
    placed rs ≡ got rs + took rs + unfetched book + waiting book

unfoldable pub Handed : Type 0
Handed =
    (z : Size) (cs : List Call) (rs : List Answer) (m : Line) → Run z cs rs m
    → let rows = B.leaves z (B.opened z) (map as_step cs) in
    let book = B.after z (B.opened z) (map as_step cs) in
    (handed rs ≡ map (λ n. (B.row_at book.rows n).label) rows) × ((n : ℕ) → times n rows ≤ 1)

-- no label is lost or invented: a row that is gone left once, or one desk has claimed it and not fetched; no other row did; what
-- left, and what desks hold, are rows of labels placed; and the labels got and fetched, claimed but unfetched, and waiting are
-- those placed, each as often
unfoldable pub RowsKept : Type 0
RowsKept =
    (z : Size) (cs : List Call) (rs : List Answer) (m : Line) → Run z cs rs m
    → let rows = B.leaves z (B.opened z) (map as_step cs) in
    let book = B.after z (B.opened z) (map as_step cs) in
    ((n : ℕ) → times n rows + times_held n book ≡ (if (B.row_at book.rows n).gone then 1 else 0))
    × ((n : ℕ) → 0 < times n rows → n < placed rs)
    × ((d : ℕ) (h : Hold ℕ) → B.desk_at book d ≡ holding h → h.at < placed rs)
    × ((a : ℕ) → times a (handed rs) + times_unfetched a book + times_waiting a book ≡ times a (placed_labels (map as_step cs) rs))

-- a line run from opening is always sound
unfoldable pub AlwaysSound : Type 0
AlwaysSound = (z : Size) (cs : List Call) (rs : List Answer) (m : Line) → Run z cs rs m → (r : Checked) → Checks m r → r ≡ sound

-- ---- demand 2: the survey names just the blocks that a look would serve

pub record Names (l : Line) (v : Findings) : Type 0 where
  -- bit b is set exactly if an idle desk's look at block b would be SEEN, and so if the look of a desk that is idle is
  pub bits : (d b : ℕ) → d < l.head.t → (bit_at v.mask b ≡ 1) ↔ ((place : ℕ) × ((desk_step (size_of l.head) l d (look b) idle).answer ≡ Seen place))
  pub looks : (d b : ℕ) (s : Step) (r : Answer) (m : Line) → desk_at l.head d ≡ idle → d < l.head.t → decode s ≡ desk d (look b) → Steps l s r m
      → (bit_at v.mask b ≡ 1) ↔ ((place : ℕ) × (r ≡ Seen place))
  pub count : v.count ≡ ones 64 v.mask
  pub lowest : LeastBit v.mask v.lowest

pub record SurveySays (l : Line) (v : Surveyed) : Type 0 where
  pub unfit : (Fit l → ⊥) → v ≡ survey·unfit
  pub damaged : Fit l → (Sound l → ⊥) → v ≡ survey·damaged
  pub answer : Fit l → Sound l → v ≡ surveyed (found v)
  pub names : Fit l → Sound l → Names l (found v)

unfoldable pub SurveyTold : Type 0
SurveyTold = (l : Line) (v : Surveyed) → Surveys l v → SurveySays l v

-- ---- demand 3

unfoldable pub Demand3 : Type 0
Demand3 = (z : Size) (cs : List Call) (rs : List Answer) (m : Line) → Run z cs rs m → lost rs ≤ bound z (won rs) (placed rs)
