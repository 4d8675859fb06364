-- Nothing is ever stuck on the line: by demand 2 its answers are the book's, and its desks settle by the same steps. The line has
-- NB × NE entries, and no more labels wait in the book.
use Rattle.std.proofs.Common.{◌≡◌, ℕ, suc, ◌+◌, ◌*◌, Bool, T, List, [], ◌∷◌, ◌++◌, map, get_or, take, replicate, if◌then◌else◌, sym, refl, ap, ◌∙◌, ap₂, arith}
use Rattle.std.proofs.Math.Logic.{⊎_map}
use Rattle.words.specs.declared.Answer.{Answer}
use Rattle.words.specs.declared.Answer.TheVariants.{Done}
use Rattle.book.specs.Sizes.{Size, fits}
use Rattle.book.specs.Steps.{Step, Desk, idle, looked, holding}
use Rattle.book.specs.Counts.{unfetched, waiting}
use Rattle.book.specs.Book as B
use Rattle.book.specs.Messages.{put, get}
use Rattle.book.specs.Clearing.{settles, settling}
use Rattle.book.specs.Clearing as C
use Rattle.book.proofs.Choice.{T→true}
use Rattle.book.proofs.Clearing.{after_append, limits, clearing_by, clearing_length, clearing_ends, none_waiting, none_unfetched, next_placed, silent, reached_fair, reached_fronts, reached_most}
use Rattle.line.specs.Line.{Line, LentDesk, Spot, desk_of, desk_at, size_of, opened}
use Rattle.line.specs.Calls.{step, answers, after}
use Rattle.line.specs.Agrees.{as_row, Agrees}
use Rattle.line.specs.Demands.{RunAgrees, OpenedAgrees, LineCounting}
use Rattle.line.specs.Clearing.{emptying, clearing, IsPlaced, IsWorn, IsBusy, LineNothingStuck, LineOnlyBusy}
use Rattle.line.proofs.Front.{at_size, put_turn_lem}
use Rattle.line.proofs.Desks.{desk_same, rule, held_same}
use Rattle.line.proofs.Runs.{run_agrees, opening_agrees, line_counting}

-- ---- the next put, on a line and a book that agree

module _ (l : Line) (b : B.Book) (a : ℕ) where
  answer_same : (z : Size) → Agrees z l b → (step l (put a)).answer ≡ (B.step z b (put a)).answer
  unfolding RunAgrees answers B.answers
  answer_same z g = ap (λ (x : List Answer). get_or x 0 Done) (run_agrees z l b (put a ∷ []) g).0

  worn_own : Agrees (size_of l.head) l b → C.IsWorn (size_of l.head) b a → IsWorn l a
  worn_own g w = (answer_same (size_of l.head) g ∙ w.0, rw (put_turn_lem l b g) at w.1)

  busy_own : Agrees (size_of l.head) l b → C.IsBusy (size_of l.head) b a → IsBusy l a
  busy_own g h =
      let z = size_of l.head in
      let q = h.1.0 in
      let d = h.1.2 in
      let x = desk_at l.head d in
      let t : T (B.held_in z q (as_row z x)) = rw (desk_same l b g d) at h.1.3 in
      let one = ap {B = ℕ} (λ (y : Bool). if y then 1 else 0) (T→true (B.held_in z q (as_row z x)) t) in
      (answer_same z g ∙ h.0, (q, h.1.1 ∙ ap (λ (n : ℕ). n + 1) (put_turn_lem l b g), d, sym (held_same l b g q x (rule l b g d x refl)) ∙ one))

  module _ (z : Size) (g : Agrees z l b) where
    placed_same : C.IsPlaced z b a → IsPlaced l a
    placed_same p = answer_same z g ∙ p

    worn_same : C.IsWorn z b a → IsWorn l a
    worn_same = at_size z l b (λ y. C.IsWorn y b a → IsWorn l a) worn_own g

    busy_same : C.IsBusy z b a → IsBusy l a
    busy_same = at_size z l b (λ y. C.IsBusy y b a → IsBusy l a) busy_own g

-- ---- the same steps clear both

settles_same : (z : Size) (d : ℕ) (x : Desk Spot) → settles d x ≡ settles d (as_row z x)
settles_same z d idle = refl
settles_same z d (looked s) = refl
settles_same z d (holding h) = refl

settling_same : (z : Size) (d : ℕ) (l : List LentDesk) → settling d (map desk_of l) ≡ settling d (map (λ x. as_row z (desk_of x)) l)
unfolding settling
settling_same z d [] = refl
settling_same z d (x ∷ l) = ap₂ ◌++◌ (settles_same z d (desk_of x)) (settling_same z (suc d) l)

module _ (z : Size) (l : Line) (b : B.Book) (g : Agrees z l b) where
  emptying_same : emptying l ≡ replicate (suc (z.nb * z.ne)) get
  unfolding emptying
  emptying_same = ap (λ (y : Size). replicate (suc (y.nb * y.ne)) get) g.lawful.size

  clearing_same : clearing l ≡ clearing_by (z.nb * z.ne) b
  unfolding clearing
  clearing_same =
      ap₂ ◌++◌ (ap (λ (y : Size). settling 0 (map desk_of (take y.t l.head.desks))) g.lawful.size
      ∙ settling_same z 0 (take z.t l.head.desks) ∙ ap (settling 0) (sym g.desks)) emptying_same

-- ---- from opening

module _ (z : Size) (ss : List Step) (f : T (fits z)) where
  abbrev line : Line
  line = after (opened z) ss

  abbrev book : B.Book
  book = B.after z (B.opened z) ss

  agree : Agrees z line book
  unfolding RunAgrees OpenedAgrees
  agree = (run_agrees z (opened z) (B.opened z) ss (opening_agrees z f)).1

  on : (ts : List Step) → (answers line ts ≡ B.answers z book ts) × Agrees z (after line ts) (B.after z book ts)
  unfolding RunAgrees
  on ts = run_agrees z line book ts agree

pub line_nothing_stuck : LineNothingStuck
unfolding LineNothingStuck LineCounting
line_nothing_stuck z ss f =
    let l = line z ss f in
    let b = book z ss f in
    let v = limits z f in
    let fair = reached_fair z ss in
    let fronts = reached_fronts z ss in
    let w = z.nb * z.ne in
    let enough = reached_most z ss f in
    let same = clearing_same z l b (agree z ss f) in
    let o = on z ss f (clearing_by w b) in
    record {
      steps = rw same (omega (arith, clearing_length z v b fair fronts w enough));
      empty = let e = clearing_ends z v b fair fronts w enough in rw same (e.0, o.0 ∙ e.1);
      all =
          let e = after_append z (B.opened z) ss (clearing_by w b) in
          rw same (omega (arith, line_counting z (ss ++ clearing_by w b) f, ap waiting e, ap unfetched e, none_waiting z v b fair fronts w enough, none_unfetched z v b fair fronts w enough));
      next = λ a t.
          let e = after l (clearing_by w b) in
          let c = B.after z b (clearing_by w b) in
          rw same (⊎_map (placed_same e c a z o.1) (worn_same e c a z o.1) (next_placed z v b fair fronts w enough a t));
    }

pub line_only_busy : LineOnlyBusy
unfolding LineOnlyBusy
line_only_busy z ss a f t =
    let l = line z ss f in
    let b = book z ss f in
    let w = z.nb * z.ne in
    let ts = replicate (suc w) get in
    let e = after l ts in
    let c = B.after z b ts in
    let g = (on z ss f ts).1 in
    rw (emptying_same z l b (agree z ss f))
    (⊎_map (placed_same e c a z g) (⊎_map (worn_same e c a z g) (busy_same e c a z g)) (silent z ss w a f (reached_most z ss f) t))
