-- The cases, as data: a size, the steps of a run from opening, their answers, and the bound on claims lost where the paper says it.
-- Where the size is outside its limits the answer is UNFIT alone, so that the book and the limits stand in one statement, `CasesHold`.
use Rattle.std.specs.Prelude.{◌≡◌, List, [], ◌∷◌, ◌++◌, map, ℕ, zero, suc, T}
use Rattle.words.specs.declared.Answer.{Answer}
use Rattle.words.specs.declared.Answer.TheVariants.{Put, Got, Took, Whole, Seen, Claimed, Done, Refused}
use Rattle.words.specs.declared.Refusal.{Refusal}
use Rattle.words.specs.declared.Refusal.TheVariants.{Unfit, Badstep, Nodesk, Noblock, Stage, Owned, Nothing, Lost, Notlabel, Range, Full, Busy, Empty}
use Rattle.book.specs.Sizes.{Size, sized, fits}
use Rattle.book.specs.Steps.{Step}
use Rattle.book.specs.Messages.{raw, put, get, order, claim, fetch, finish, look, most}
use Rattle.book.specs.Book.{from_opening}
use Rattle.book.specs.Counts.{placed, won, bound}

infix 68 ◌⇒◌
-- of a case's bound the paper says nothing, or a number
pub data Bound : Type 0 where
  unsaid : Bound
  bound_is : ℕ → Bound

pub record Case : Type 0 where
  pub size : Size
  pub steps : List Step
  pub answers : List Answer
  pub bound : Bound

-- ---- a case is written as its steps, each with its answer

pub record Exchange : Type 0 where
  pub step : Step
  pub answer : Answer

abbrev pub ◌⇒◌ : Step → Answer → Exchange
s ⇒ a = record { step = s; answer = a }

abbrev pub no : Refusal → Answer
no w = Refused w 0

-- n gets hand over a, a + 1, and so on
abbrev pub gets : ℕ → ℕ → List Exchange → List Exchange
gets zero a l = l
gets (suc n) a l = (get ⇒ Got a) ∷ gets n (suc a) l

-- a size and the run; NB, NE, T and the run
abbrev pub of : Size → List Exchange → Case
of z l = record { size = z; steps = map (λ x. x.step) l; answers = map (λ x. x.answer) l; bound = unsaid }

abbrev pub on : ℕ → ℕ → ℕ → List Exchange → Case
on nb ne t l = of (sized nb ne t) l

abbrev pub unfit : ℕ → ℕ → ℕ → Case
unfit nb ne t = record { size = sized nb ne t; steps = put 1 ∷ get ∷ []; answers = no Unfit ∷ []; bound = unsaid }

-- where the bound is n
abbrev pub bounded : ℕ → Case → Case
bounded n c = record c { bound = bound_is n }

-- ---- marked in "Either side of the line", with the listing

-- what a fresh line answers to one step, at every size
unfoldable pub fresh : Size → List Case
fresh z =
    -- order 1 to 1: WHOLE 1
    of z (order 1 1 ⇒ Whole 1 ∷ [])
    -- order 1 to 0: RANGE
    ∷ of z (order 1 0 ⇒ no Range ∷ [])
    -- put 999,999 placed
    ∷ of z (put 999999 ⇒ Put 999999 ∷ [])
    -- put 1,000,000 NOTLABEL
    ∷ of z (put 1000000 ⇒ no Notlabel ∷ [])
    -- get on a fresh line: EMPTY
    ∷ of z (get ⇒ no Empty ∷ [])
    -- look at block 0 of a fresh line: OWNED
    ∷ of z (look 0 0 ⇒ no Owned ∷ [])
    -- look at block 1 of a fresh line: NOTHING
    ∷ of z (look 0 1 ⇒ no Nothing ∷ [])
    ∷ []

-- a claim is lost, where the bound lets one be lost
abbrev pub losing : Case
losing = on 2 1 1 (put 1 ⇒ Put 1 ∷ put 2 ⇒ Put 2 ∷ look 0 1 ⇒ Seen 0 ∷ get ⇒ Got 1 ∷ get ⇒ Got 2 ∷ claim 0 ⇒ no Lost ∷ [])

-- the paper's listing
abbrev pub listing : Case
listing =
    on 2 2 2
    (order 1 5 ⇒ Refused Full 4 ∷ look 0 1 ⇒ Seen 0 ∷ look 1 1 ⇒ Seen 0 ∷ claim 0 ⇒ Claimed 0 ∷ claim 1 ⇒ no Lost
    ∷ get ⇒ Got 1 ∷ get ⇒ Got 2 ∷ get ⇒ Got 4 ∷ put 5 ⇒ Put 5 ∷ put 6 ⇒ Put 6 ∷ put 7 ⇒ no Full ∷ get ⇒ Got 5
    ∷ put 7 ⇒ no Busy ∷ fetch 0 ⇒ Took 3 ∷ finish 0 ⇒ Done ∷ put 7 ⇒ Put 7 ∷ get ⇒ Got 6 ∷ get ⇒ Got 7
    ∷ get ⇒ no Empty ∷ look 1 0 ⇒ no Owned ∷ [])

unfoldable pub marked : List Case
marked =
    -- order 1 to 100, NE 64, NB 2: WHOLE 100; 100 gets hand over 1 to 100, the next is EMPTY
    on 2 64 1 (order 1 100 ⇒ Whole 100 ∷ gets 100 1 (get ⇒ no Empty ∷ []))
    ∷ fresh (sized 2 64 1)
    -- NB 1 UNFIT
    ++ (unfit 1 64 1
    -- NB 65 UNFIT
    ∷ unfit 65 64 1
    -- NE 1, NB 2, T 1: put, put, look at 1, get, get, claim: LOST, where the bound is 1
    ∷ bounded 1 losing
    ∷ listing
    ∷ [])

-- ---- four ways to get it nearly right: each with a short run that tells it from the right one

unfoldable pub nearly_right : List Case
nearly_right =
    -- the last label of a block is placed there, and read
    on 2 2 1 (order 1 4 ⇒ Whole 4 ∷ gets 4 1 (get ⇒ no Empty ∷ []))
    -- a block filled again: place 0 of turn 1 was seen, turn 3 stands there now and is not owned
    ∷ on 2 1 1
    (put 1 ⇒ Put 1 ∷ put 2 ⇒ Put 2 ∷ look 0 1 ⇒ Seen 0 ∷ get ⇒ Got 1 ∷ get ⇒ Got 2 ∷ put 3 ⇒ Put 3 ∷ get ⇒ Got 3
    ∷ put 4 ⇒ Put 4 ∷ claim 0 ⇒ no Lost ∷ look 0 1 ⇒ Seen 0 ∷ [])
    -- BUSY while a desk has claimed in turn Q, and while it has fetched; not once it has finished
    ∷ on 2 1 2
    (order 1 2 ⇒ Whole 2 ∷ look 1 1 ⇒ Seen 0 ∷ claim 1 ⇒ Claimed 0 ∷ get ⇒ Got 1 ∷ get ⇒ no Empty ∷ put 3 ⇒ Put 3 ∷ get ⇒ Got 3
    ∷ put 4 ⇒ no Busy ∷ fetch 1 ⇒ Took 2 ∷ put 4 ⇒ no Busy ∷ finish 1 ⇒ Done ∷ put 4 ⇒ Put 4 ∷ [])
    -- the owner takes a block over: the stolen label does not come out again
    ∷ on 2 2 1
    (order 1 4 ⇒ Whole 4 ∷ look 0 1 ⇒ Seen 0 ∷ claim 0 ⇒ Claimed 0 ∷ get ⇒ Got 1 ∷ get ⇒ Got 2 ∷ get ⇒ Got 4 ∷ get ⇒ no Empty
    ∷ fetch 0 ⇒ Took 3 ∷ [])
    ∷ []

-- ---- what those cases would let pass

unfoldable pub let_pass : List Case
let_pass =
    -- after LOST the desk is idle: a second claim is STAGE
    on 2 1 1
    (order 1 2 ⇒ Whole 2 ∷ look 0 1 ⇒ Seen 0 ∷ get ⇒ Got 1 ∷ get ⇒ Got 2 ∷ claim 0 ⇒ no Lost ∷ claim 0 ⇒ no Stage ∷ [])
    -- one get moves NB - 1 blocks
    ∷ on 4 1 2
    (order 1 4 ⇒ Whole 4 ∷ look 0 1 ⇒ Seen 0 ∷ claim 0 ⇒ Claimed 0 ∷ look 1 2 ⇒ Seen 0 ∷ claim 1 ⇒ Claimed 0
    ∷ get ⇒ Got 1 ∷ get ⇒ Got 4 ∷ [])
    -- EMPTY: the moves made stay
    ∷ on 3 1 3
    (order 1 3 ⇒ Whole 3 ∷ look 0 1 ⇒ Seen 0 ∷ claim 0 ⇒ Claimed 0 ∷ look 1 2 ⇒ Seen 0 ∷ claim 1 ⇒ Claimed 0
    ∷ get ⇒ Got 1 ∷ get ⇒ no Empty ∷ look 2 2 ⇒ no Owned ∷ put 4 ⇒ Put 4 ∷ get ⇒ Got 4 ∷ [])
    -- EMPTY at turn P: K stays, and what is put there later is handed over
    ∷ on 2 2 1 (put 1 ⇒ Put 1 ∷ get ⇒ Got 1 ∷ get ⇒ no Empty ∷ put 2 ⇒ Put 2 ∷ get ⇒ Got 2 ∷ get ⇒ no Empty ∷ [])
    -- NOBLOCK before STAGE
    ∷ on 2 1 1
    (order 1 2 ⇒ Whole 2 ∷ look 0 1 ⇒ Seen 0 ∷ claim 0 ⇒ Claimed 0 ∷ look 0 2 ⇒ no Noblock ∷ look 0 1 ⇒ no Stage ∷ [])
    ∷ []

-- ---- codes, desks and looks: each refusal, and the order of the tests

unfoldable pub desk_steps : List Case
desk_steps =
    -- BADSTEP: a code not listed
    on 2 1 1
    (raw 3 0 0 ⇒ no Badstep ∷ raw 15 0 0 ⇒ no Badstep ∷ raw 80 0 0 ⇒ no Badstep ∷ raw 255 0 0 ⇒ no Badstep
    ∷ raw 256 0 0 ⇒ no Badstep ∷ raw most most most ⇒ no Badstep ∷ get ⇒ no Empty ∷ [])
    -- numbers not named are ignored
    ∷ on 2 1 1
    (raw 0 1 most ⇒ Put 1 ∷ raw 0 2 most ⇒ Put 2 ∷ raw 64 1 most ⇒ Seen 0 ∷ raw 16 most most ⇒ Claimed 0
    ∷ raw 32 most most ⇒ Took 2 ∷ raw 48 most most ⇒ Done ∷ raw 1 most most ⇒ Got 1 ∷ [])
    -- NODESK: desk T; before NOBLOCK and before STAGE
    ∷ on 2 1 1
    (order 1 2 ⇒ Whole 2 ∷ look 1 1 ⇒ no Nodesk ∷ look 1 2 ⇒ no Nodesk ∷ claim 1 ⇒ no Nodesk ∷ fetch 1 ⇒ no Nodesk
    ∷ finish 1 ⇒ no Nodesk ∷ look 0 2 ⇒ no Noblock ∷ look 0 1 ⇒ Seen 0 ∷ [])
    -- desk 15 of 16; no code is of a desk 16: 16 above a claim is a fetch, and 16 above a look is not listed
    ∷ on 2 1 16
    (order 1 2 ⇒ Whole 2 ∷ look 15 1 ⇒ Seen 0 ∷ claim 15 ⇒ Claimed 0 ∷ fetch 15 ⇒ Took 2 ∷ finish 15 ⇒ Done
    ∷ claim 16 ⇒ no Stage ∷ look 16 1 ⇒ no Badstep ∷ [])
    -- the grid: what idle, looked, claimed and fetched take; STAGE for every other step
    ∷ on 2 2 1
    (order 1 4 ⇒ Whole 4 ∷ claim 0 ⇒ no Stage ∷ fetch 0 ⇒ no Stage ∷ finish 0 ⇒ no Stage ∷ look 0 1 ⇒ Seen 0
    ∷ fetch 0 ⇒ no Stage ∷ finish 0 ⇒ no Stage ∷ look 0 1 ⇒ Seen 0 ∷ claim 0 ⇒ Claimed 0
    ∷ look 0 1 ⇒ no Stage ∷ claim 0 ⇒ no Stage ∷ finish 0 ⇒ no Stage ∷ fetch 0 ⇒ Took 3
    ∷ look 0 1 ⇒ no Stage ∷ claim 0 ⇒ no Stage ∷ fetch 0 ⇒ no Stage ∷ finish 0 ⇒ Done ∷ look 0 1 ⇒ Seen 1 ∷ [])
    -- OWNED: the current turn is below K, or K; STAGE before OWNED
    ∷ on 3 1 1
    (order 1 3 ⇒ Whole 3 ∷ get ⇒ Got 1 ∷ get ⇒ Got 2 ∷ look 0 0 ⇒ no Owned ∷ look 0 1 ⇒ no Owned ∷ look 0 2 ⇒ Seen 0
    ∷ claim 0 ⇒ Claimed 0 ∷ look 0 0 ⇒ no Stage ∷ [])
    -- look sees the block's current turn: turns 3 and 4 stand in blocks 0 and 1, and turn 2 still in block 2
    ∷ on 3 1 1
    (order 1 3 ⇒ Whole 3 ∷ get ⇒ Got 1 ∷ get ⇒ Got 2 ∷ get ⇒ Got 3 ∷ order 4 6 ⇒ Refused Full 2 ∷ look 0 2 ⇒ no Owned
    ∷ look 0 0 ⇒ Seen 0 ∷ look 0 1 ⇒ Seen 0 ∷ claim 0 ⇒ Claimed 0 ∷ fetch 0 ⇒ Took 5 ∷ get ⇒ Got 4 ∷ get ⇒ no Empty ∷ [])
    -- NOTHING: an unused block, or claimed = written
    ∷ on 3 2 2
    (order 1 3 ⇒ Whole 3 ∷ look 0 2 ⇒ no Nothing ∷ look 0 1 ⇒ Seen 0 ∷ claim 0 ⇒ Claimed 0 ∷ look 1 1 ⇒ no Nothing
    ∷ put 4 ⇒ Put 4 ∷ look 1 1 ⇒ Seen 1 ∷ claim 1 ⇒ Claimed 1 ∷ fetch 1 ⇒ Took 4 ∷ [])
    -- a refused second look leaves the first standing
    ∷ on 3 1 1
    (order 1 2 ⇒ Whole 2 ∷ look 0 1 ⇒ Seen 0 ∷ look 0 0 ⇒ no Owned ∷ look 0 2 ⇒ no Nothing ∷ look 0 3 ⇒ no Noblock
    ∷ claim 0 ⇒ Claimed 0 ∷ fetch 0 ⇒ Took 2 ∷ [])
    -- a second look replaces the first
    ∷ on 3 1 1
    (order 1 3 ⇒ Whole 3 ∷ look 0 1 ⇒ Seen 0 ∷ look 0 2 ⇒ Seen 0 ∷ claim 0 ⇒ Claimed 0 ∷ fetch 0 ⇒ Took 3 ∷ get ⇒ Got 1
    ∷ get ⇒ Got 2 ∷ [])
    ∷ []

-- ---- puts and orders: each refusal, and the order of the tests

unfoldable pub puts : List Case
puts =
    -- RANGE: A > B or B > 999,999, never NOTLABEL; order 999,999 to 999,999: WHOLE 1
    on 2 2 1
    (order 2 1 ⇒ no Range ∷ order 999999 1000000 ⇒ no Range ∷ order 1000000 1000000 ⇒ no Range
    ∷ order 1000000 999999 ⇒ no Range ∷ order 999999 999999 ⇒ Whole 1 ∷ get ⇒ Got 999999 ∷ get ⇒ no Empty ∷ [])
    -- NOTLABEL and RANGE before FULL
    ∷ on 2 1 1
    (order 1 2 ⇒ Whole 2 ∷ put 3 ⇒ no Full ∷ order 3 4 ⇒ no Full ∷ put 1000000 ⇒ no Notlabel ∷ order 4 3 ⇒ no Range
    ∷ order 3 1000000 ⇒ no Range ∷ gets 2 1 (get ⇒ no Empty ∷ []))
    -- a desk has fetched in turn 1: turn 2 is started, with Q = 0; then FULL before BUSY, with Q = K = 1
    ∷ on 2 1 1
    (order 1 2 ⇒ Whole 2 ∷ look 0 1 ⇒ Seen 0 ∷ claim 0 ⇒ Claimed 0 ∷ fetch 0 ⇒ Took 2 ∷ get ⇒ Got 1 ∷ get ⇒ no Empty
    ∷ put 3 ⇒ Put 3 ∷ put 4 ⇒ no Full ∷ [])
    -- an order that ends BUSY, with the number placed
    ∷ on 2 2 1
    (order 1 4 ⇒ Whole 4 ∷ look 0 1 ⇒ Seen 0 ∷ claim 0 ⇒ Claimed 0 ∷ get ⇒ Got 1 ∷ get ⇒ Got 2 ∷ get ⇒ Got 4 ∷ put 5 ⇒ Put 5
    ∷ get ⇒ Got 5 ∷ order 6 9 ⇒ Refused Busy 1 ∷ get ⇒ Got 6 ∷ get ⇒ no Empty ∷ [])
    -- order 0 to 999,999 on a fresh line: FULL with NB x NE
    ∷ on 4 4 1 (order 0 999999 ⇒ Refused Full 16 ∷ gets 16 0 (get ⇒ no Empty ∷ []))
    -- one label placed twice is handed over twice
    ∷ on 2 1 1 (put 7 ⇒ Put 7 ∷ put 7 ⇒ Put 7 ∷ get ⇒ Got 7 ∷ get ⇒ Got 7 ∷ get ⇒ no Empty ∷ put 0 ⇒ Put 0 ∷ get ⇒ Got 0 ∷ [])
    -- the largest numbers of a message, as label, block and order
    ∷ on 2 1 1
    (put most ⇒ no Notlabel ∷ look 0 most ⇒ no Noblock ∷ order 0 most ⇒ no Range ∷ order most 0 ⇒ no Range
    ∷ order most most ⇒ no Range ∷ get ⇒ no Empty ∷ [])
    ∷ []

-- ---- the limits

unfoldable pub limits : List Case
limits =
    -- NE 0 UNFIT
    unfit 2 0 1
    -- NE 65 UNFIT
    ∷ unfit 2 65 1
    -- T 0 UNFIT
    ∷ unfit 2 1 0
    -- T 17 UNFIT
    ∷ unfit 2 1 17
    -- the largest line opens: NB 64, NE 64, T 16
    ∷ on 64 64 16 (get ⇒ no Empty ∷ look 15 63 ⇒ no Nothing ∷ [])
    -- the smallest line opens: NB 2, NE 1, T 1
    ∷ on 2 1 1 (get ⇒ no Empty ∷ look 0 1 ⇒ no Nothing ∷ [])
    ∷ []

-- ---- every case of a list is as the book says

unfoldable pub cases : List Case
cases = marked ++ (nearly_right ++ (let_pass ++ (desk_steps ++ (puts ++ limits))))

-- its answers are the book's, and so is its bound where it is said
abbrev pub Holds : Case → Type 0
Holds c = holds c.bound
  where
    run : List Answer
    run = from_opening c.size c.steps

    holds : Bound → Type 0
    holds unsaid = run ≡ c.answers
    holds (bound_is n) = (run ≡ c.answers) × (bound c.size (won run) (placed run) ≡ n)

abbrev pub Hold : List Case → Type 0
Hold [] = Unit {0}
Hold (c ∷ cs) = Holds c × Hold cs

unfoldable pub CasesHold : Type 0
CasesHold = Hold cases

-- the marked cases of one step, at every size
unfoldable pub FreshHold : Type 0
FreshHold = (z : Size) → T (fits z) → Hold (fresh z)
