-- The demands, as statements about the line alone and about line and book. proofs/ has a proof of each, under the
-- same name in small letters.
use Rattle.std.specs.Prelude.{◌≡◌, ◌≢◌, ◌↔◌, List, [], ◌∷◌, ◌++◌, map, ℕ, zero, suc, ◌+◌, ◌-◌, ◌/◌, ◌%◌, ◌^◌, ◌≤◌, ◌<◌, T, length, if◌then◌else◌}
use Rattle.words.specs.declared.Answer.TheVariants.{Whole, Seen, Refused}
use Rattle.words.specs.declared.Refusal.{Refusal}
use Rattle.words.specs.declared.Refusal.TheVariants.{Unfit, Damaged, Lost, Range, Worn, Empty}
use Rattle.book.specs.Sizes.{Size, sized, fits, is_order}
use Rattle.book.specs.declared.DeskStep.TheVariants.{Look as look, Claim as claim}
use Rattle.book.specs.declared.Deed.{Deed}
use Rattle.book.specs.declared.Deed.TheVariants.{Get as get, Order as order, Desk as desk}
use Rattle.book.specs.Steps.{Step, Hold, idle, holding, decode}
use Rattle.book.specs.Verdicts.{refuses}
use Rattle.book.specs.Book as B
use Rattle.book.specs.Messages.{put}
use Rattle.book.specs.WornCases.{put_and_get, placed_and_got}
use Rattle.book.specs.Counts.{placed, got, took, won, lost, unfetched, times_held, waiting, handed, times, times_unfetched, times_waiting, bound}
use Rattle.book.specs.Order.{placed_labels}
use Rattle.line.specs.Line.{Line, Outcome, desk_at, get_at, with_desk, with_head, desk_step, may_put, opened, size_in, here}
use Rattle.line.specs.Rules.{Sound, RuleAt, rule_number, in_order, Obeys}
use Rattle.line.specs.Check.{sound, unfit, broken, fit, check}
use Rattle.line.specs.Calls.{open·line, open·unfit, opens, step, orders, answers, after}
use Rattle.line.specs.Survey.{survey, surveyed, survey·unfit, survey·damaged, found}
use Rattle.line.specs.Refusals.{When, after_puts, Places}
use Rattle.line.specs.Agrees.{Lawful, Agrees}

abbrev Fit : Line → Type 0
Fit l = T (fit (size_in l) l.table l.entries)

-- ---- demand 1: the check

unfoldable pub CheckUnfit : Type 0
CheckUnfit = (l : Line) → (check l ≡ unfit) ↔ (Fit l → ⊥)

unfoldable pub CheckSound : Type 0
CheckSound = (l : Line) → (check l ≡ sound) ↔ (Fit l × Sound l)

-- the rule that is named is broken at the place that is named, and none before it is
pub record FirstBroken (l : Line) (place rule : ℕ) : Type 0 where
  pub before : List RuleAt
  pub named : RuleAt
  pub behind : List RuleAt
  pub order : in_order l.head.nb ≡ before ++ (named ∷ behind)
  pub there : named.place ≡ place
  pub number : rule_number named.rule ≡ rule
  pub is_broken : Obeys l named → ⊥
  pub none_before : (x y : List RuleAt) (a : RuleAt) → before ≡ x ++ (a ∷ y) → Obeys l a

unfoldable pub CheckBroken : Type 0
CheckBroken = (l : Line) (place rule : ℕ) → check l ≡ broken place rule → Fit l × FirstBroken l place rule

-- and where a rule is the first broken, the check names it and its place
unfoldable pub CheckNames : Type 0
CheckNames = (l : Line) (place rule : ℕ) → Fit l → FirstBroken l place rule → check l ≡ broken place rule

-- entries are not checked: whatever as many entries hold, check and survey are the same
abbrev pub with_entries : Line → List ℕ → Line
with_entries l es = record l { entries = es }

unfoldable pub CheckUnread : Type 0
CheckUnread = (l : Line) (es : List ℕ) → length es ≡ length l.entries → check (with_entries l es) ≡ check l

unfoldable pub SurveyUnread : Type 0
SurveyUnread = (l : Line) (es : List ℕ) → length es ≡ length l.entries → survey (with_entries l es) ≡ survey l

-- ---- demand 1: what is refused before the code is looked at

pub record Guarded (l : Line) (o : Outcome) : Type 0 where
  pub unfit : (o.answer ≡ Refused Unfit 0) ↔ (Fit l → ⊥)
  pub damaged : (o.answer ≡ Refused Damaged 0) ↔ (Fit l × (Sound l → ⊥))
  pub left : (Fit l × Sound l → ⊥) → o.line ≡ l

unfoldable pub StepGuarded : Type 0
StepGuarded = (l : Line) (s : Step) → Guarded l (step l s)

unfoldable pub OrderGuarded : Type 0
OrderGuarded = (l : Line) (a e : ℕ) → Guarded l (orders l a e)

unfoldable pub SurveyGuarded : Type 0
SurveyGuarded =
    (l : Line)
    → ((Fit l → ⊥) → survey l ≡ survey·unfit)
    × (Fit l → (Sound l → ⊥) → survey l ≡ survey·damaged)
    × (Fit l → Sound l → survey l ≡ surveyed (found (survey l)))

-- opening refuses exactly numbers or lengths that do not fit, and then leaves what was lent
unfoldable pub OpeningGuarded : Type 0
OpeningGuarded =
    (l : Line) (z : Size)
    → (T (fit z l.table l.entries) → ((opens l z).answer ≡ open·line) × ((opens l z).line ≡ opened z))
    × ((T (fit z l.table l.entries) → ⊥) → ((opens l z).answer ≡ open·unfit) × ((opens l z).line ≡ l))

-- ---- demand 1: each refusal exactly when the paper says

abbrev NoOrder : Deed → Type 0
NoOrder e = (a b : ℕ) → e ≢ order a b

unfoldable pub RefusedWhen : Type 0
RefusedWhen =
    (l : Line) (s : Step) (w : Refusal) (n : ℕ) → Fit l → Sound l → NoOrder (decode s)
    → ((step l s).answer ≡ Refused w n) ↔ (When l w (decode s) × (n ≡ 0))

-- an order: RANGE, else WHOLE with B - A + 1, or the refusal of the first put that is refused with the number placed
pub record Ordered (l : Line) (a e : ℕ) (o : Outcome) : Type 0 where
  pub range : (n : ℕ) → (o.answer ≡ Refused Range n) ↔ (When l Range (order a e) × (n ≡ 0))
  pub whole : (n : ℕ) → (o.answer ≡ Whole n) ↔ (T (is_order a e) × (n ≡ suc e - a) × Places (size_in l) n l a)
  pub stopped : (w : Refusal) (n : ℕ) → w ≢ Range
      → (o.answer ≡ Refused w n)
      ↔ (T (is_order a e) × (n < suc e - a) × Places (size_in l) n l a × (may_put (size_in l) (after_puts (size_in l) n l a) (a + n) ≡ refuses w))
  pub placed : (n : ℕ) → o.answer ≡ Whole n → o.line ≡ after_puts (size_in l) n l a
  pub kept : (w : Refusal) (n : ℕ) → o.answer ≡ Refused w n → o.line ≡ after_puts (size_in l) n l a

unfoldable pub OrderedWhen : Type 0
OrderedWhen = (l : Line) (a e : ℕ) → Fit l → Sound l → Ordered l a e (orders l a e)

unfoldable pub StepIsOrder : Type 0
StepIsOrder = (l : Line) (s : Step) (a e : ℕ) → decode s ≡ order a e → step l s ≡ orders l a e

-- ---- demand 1: what a refusal leaves

unfoldable pub RefusedLeaves : Type 0
RefusedLeaves = (l : Line) (s : Step) (w : Refusal) (n : ℕ) → NoOrder (decode s) → (step l s).answer ≡ Refused w n → w ≢ Lost → w ≢ Empty → (step l s).line ≡ l

unfoldable pub HeadAlone : Type 0
HeadAlone =
    (l : Line) (s : Step) (w : Refusal) (n : ℕ) → NoOrder (decode s) → (step l s).answer ≡ Refused w n
    → ((step l s).line.table ≡ l.table) × ((step l s).line.entries ≡ l.entries)

-- LOST leaves the desk idle; EMPTY keeps the moves: K is then P, and turn P is read to its end
unfoldable pub LostLeaves : Type 0
LostLeaves =
    (l : Line) (s : Step) (n : ℕ) → Fit l → Sound l → NoOrder (decode s) → (step l s).answer ≡ Refused Lost n
    → (d : ℕ) × (decode s ≡ desk d claim) × ((step l s).line ≡ with_head l (with_desk l.head d idle))

unfoldable pub EmptyLeaves : Type 0
EmptyLeaves =
    (l : Line) (s : Step) (n : ℕ) → Fit l → Sound l → decode s ≡ get → (step l s).answer ≡ Refused Empty n
    → let p = l.head.p in
    (step l s).line ≡ with_head l (get_at l.head (record { turn = p; place = (here l p).written }))

-- ---- one get moves at most NB - 1 blocks

unfoldable pub LineGetMoves : Type 0
LineGetMoves = (l : Line) (s : Step) → decode s ≡ get → let k = (step l s).line.head.k in (l.head.k ≤ k) × (k - l.head.k ≤ l.head.nb - 1)

-- ---- sound in, sound out

unfoldable pub SoundOut : Type 0
SoundOut = (z : Size) (l : Line) (s : Step) → Lawful z l → Lawful z (step l s).line

unfoldable pub OrderSoundOut : Type 0
OrderSoundOut = (z : Size) (l : Line) (a e : ℕ) → Lawful z l → Lawful z (orders l a e).line

unfoldable pub AlwaysSound : Type 0
AlwaysSound = (z : Size) (ss : List Step) → T (fits z) → check (after (opened z) ss) ≡ sound

-- ---- demand 2

unfoldable pub RunAgrees : Type 0
RunAgrees = (z : Size) (l : Line) (b : B.Book) (ss : List Step) → Agrees z l b → (answers l ss ≡ B.answers z b ss) × Agrees z (after l ss) (B.after z b ss)

unfoldable pub OpenedAgrees : Type 0
OpenedAgrees = (z : Size) → T (fits z) → Agrees z (opened z) (B.opened z)

unfoldable pub Demand2 : Type 0
Demand2 = (z : Size) (ss : List Step) → T (fits z) → answers (opened z) ss ≡ B.answers z (B.opened z) ss

unfoldable pub LineCounting : Type 0
LineCounting =
    (z : Size) (ss : List Step) → T (fits z)
    → let l = answers (opened z) ss in
    let b = B.after z (B.opened z) ss in
    placed l ≡ got l + took l + unfetched b + waiting b

-- no row's label leaves twice
unfoldable pub LineHanded : Type 0
LineHanded =
    (z : Size) (ss : List Step) → T (fits z)
    → let rows = B.leaves z (B.opened z) ss in
    (handed (answers (opened z) ss) ≡ map (λ n. (B.row_at (B.after z (B.opened z) ss).rows n).label) rows) × ((n : ℕ) → times n rows ≤ 1)

-- and no label is lost or invented: a row that is gone left once, or one desk has claimed it and not fetched; no other row did; what
-- left, and what desks hold, are rows of labels placed; and the labels got and fetched, claimed but unfetched, and waiting are those
-- placed, each as often
unfoldable pub LineRowsKept : Type 0
LineRowsKept =
    (z : Size) (ss : List Step) → T (fits z)
    → let l = answers (opened z) ss in
    let b = B.after z (B.opened z) ss in
    let rows = B.leaves z (B.opened z) ss in
    ((n : ℕ) → times n rows + times_held n b ≡ (if (B.row_at b.rows n).gone then 1 else 0))
    × ((n : ℕ) → 0 < times n rows → n < placed l)
    × ((d : ℕ) (h : Hold ℕ) → B.desk_at b d ≡ holding h → h.at < placed l)
    × ((a : ℕ) → times a (handed l) + times_unfetched a b + times_waiting a b ≡ times a (placed_labels ss l))

-- NE 1, NB 2, put and get by turns: 131,072 labels placed, then WORN
unfoldable pub LineWornRun : Type 0
LineWornRun = answers (opened (sized 2 1 1)) (put_and_get 131072 ++ (put 1 ∷ [])) ≡ placed_and_got 131072 ++ (Refused Worn 0 ∷ [])

-- ---- the survey

abbrev pub bit_at : ℕ → ℕ → ℕ
bit_at n b = n / 2 ^ b % 2

-- how many of the bits below n are set
unfoldable pub ones : ℕ → ℕ → ℕ
ones zero m = 0
ones (suc n) m = bit_at m n + ones n m

-- the lowest bit that is set, or 64 where none is
pub record LeastBit (mask b : ℕ) : Type 0 where
  pub none_below : (c : ℕ) → c < b → bit_at mask c ≡ 0
  pub set : b ≢ 64 → bit_at mask b ≡ 1
  pub none : b ≡ 64 → mask ≡ 0

abbrev Sees : Outcome → Type 0
Sees o = (place : ℕ) × (o.answer ≡ Seen place)

pub record SurveyNames (l : Line) : Type 0 where
  -- bit b is set exactly if an idle desk's look at block b would be SEEN
  pub bits : (d b : ℕ) → d < l.head.t → (bit_at (found (survey l)).mask b ≡ 1) ↔ Sees (desk_step (size_in l) l d (look b) idle)
  -- and so if the look of a desk that is idle is
  pub looks : (d b : ℕ) (s : Step) → desk_at l.head d ≡ idle → d < l.head.t → decode s ≡ desk d (look b) → (bit_at (found (survey l)).mask b ≡ 1) ↔ Sees (step l s)
  pub count : (found (survey l)).count ≡ ones 64 (found (survey l)).mask
  pub lowest : LeastBit (found (survey l)).mask (found (survey l)).lowest

unfoldable pub SurveyTells : Type 0
SurveyTells = (l : Line) → Fit l → Sound l → SurveyNames l

-- ---- demand 3

unfoldable pub Demand3 : Type 0
Demand3 = (z : Size) (ss : List Step) → T (fits z) → let l = answers (opened z) ss in lost l ≤ bound z (won l) (placed l)
