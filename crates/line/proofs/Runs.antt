-- Every run: sound in, sound out; the line's answers are the book's; and so counting, "never twice" and the bound hold of
-- the line's own answers. One step is proofs/Sound.antt and proofs/Follows.antt; here they are added up over a list of steps.
use Rattle.std.proofs.Common.{◌≡◌, List, [], ◌∷◌, ◌++◌, refl, ◌∙◌, ap₂}
use Rattle.words.specs.declared.Answer.{Answer}
use Rattle.book.specs.Sizes.{Size, sized, fits}
use Rattle.book.specs.declared.Deed.TheVariants.{Order as order}
use Rattle.book.specs.Steps.{Step, decode}
use Rattle.book.specs.Book as B
use Rattle.book.specs.Messages.{put}
use Rattle.book.specs.WornCases.{put_and_get, WornRun}
use Rattle.book.specs.Demands.{Counting, Placed, RowsKept, RowsOfBook, LabelsKept, NeverTwice, Handed, Bounded}
use Rattle.book.proofs.Counting.{counting, placed_rows, rows_kept, never_twice}
use Rattle.book.proofs.Handed.{handed_over}
use Rattle.book.proofs.Kept.{rows_of_book, labels_kept}
use Rattle.book.proofs.Bound.{bounded}
use Rattle.book.proofs.Cases.{worn_run}
use Rattle.line.specs.Line.{Line, does, opened}
use Rattle.line.specs.Calls.{step, answers, after}
use Rattle.line.specs.Agrees.{Lawful}
use Rattle.line.specs.Demands.{CheckSound, SoundOut, OrderSoundOut, AlwaysSound, RunAgrees, OpenedAgrees, Demand2, LineCounting, LineHanded, LineRowsKept, LineWornRun, Demand3}
use Rattle.line.proofs.Check.{Fit, check_sound}
use Rattle.line.proofs.Guards.{step_does, orders_does}
use Rattle.line.proofs.Sound.{does_lawful, opened_lawful}
use Rattle.line.proofs.Follows.{does_follows, opened_agrees}

-- ---- on a sound line the step is made

module _ (z : Size) (l : Line) (w : Lawful z l) where
  fits_own : Fit l
  fits_own = rw w.size w.fits

  made : (s : Step) → step l s ≡ does z l (decode s)
  made s = rw (step_does l s fits_own w.sound, w.size) refl

  lawful_out : (s : Step) → Lawful z (step l s).line
  lawful_out s = rw (made s) (does_lawful z l (decode s) w)

pub sound_out : SoundOut
unfolding SoundOut
sound_out z l s w = lawful_out z l w s

pub order_sound_out : OrderSoundOut
unfolding OrderSoundOut does
order_sound_out z l a e w = rw (orders_does l a e (fits_own z l w) w.sound, w.size) (does_lawful z l (order a e) w)

run_lawful : (z : Size) (l : Line) (ss : List Step) → Lawful z l → Lawful z (after l ss)
unfolding after
run_lawful z l [] w = w
run_lawful z l (s ∷ ss) w = run_lawful z (step l s).line ss (lawful_out z l w s)

pub always_sound : AlwaysSound
unfolding AlwaysSound CheckSound
always_sound z ss f =
    let w = run_lawful z (opened z) ss (opened_lawful z f) in
    (check_sound (after (opened z) ss)).1 (fits_own z (after (opened z) ss) w, w.sound)

-- ---- demand 2

pub run_agrees : RunAgrees
unfolding RunAgrees answers after B.answers B.after B.step
run_agrees z l b [] g = (refl, g)
run_agrees z l b (s ∷ ss) g =
    let f = does_follows z l b (decode s) g in
    let r = run_agrees z (does z l (decode s)).line (B.does z b (decode s)).book ss f.1 in
    rw (made z l g.lawful s) (ap₂ (λ (x : Answer) (xs : List Answer). x ∷ xs) f.0 r.0, r.1)

pub opening_agrees : OpenedAgrees
unfolding OpenedAgrees
opening_agrees z f = opened_agrees z f

pub demand2 : Demand2
unfolding Demand2 RunAgrees
demand2 z ss f = (run_agrees z (opened z) (B.opened z) ss (opened_agrees z f)).0

-- ---- what the book's theorems say of the line's own answers

pub line_counting : LineCounting
unfolding LineCounting Demand2 Counting
line_counting z ss f = rw (demand2 z ss f) (counting z ss)

pub line_handed : LineHanded
unfolding LineHanded Demand2 Handed NeverTwice
line_handed z ss f = rw (demand2 z ss f) (handed_over z ss, never_twice z ss)

pub line_rows_kept : LineRowsKept
unfolding LineRowsKept Demand2 RowsKept RowsOfBook LabelsKept Placed
line_rows_kept z ss f =
    let r = rw (placed_rows z ss) at (rows_of_book z ss) in
    rw (demand2 z ss f) (rows_kept z ss, r.0, r.1, labels_kept z ss)

-- ---- WORN

pub line_worn_run : LineWornRun
unfolding LineWornRun Demand2 WornRun fits
line_worn_run = demand2 (sized 2 1 1) (put_and_get 131072 ++ (put 1 ∷ [])) tt ∙ worn_run.1

-- ---- demand 3

pub demand3 : Demand3
unfolding Demand3 Demand2 Bounded
demand3 z ss f = rw (demand2 z ss f) (bounded z ss)
