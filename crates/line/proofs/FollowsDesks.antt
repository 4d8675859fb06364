-- The line follows the book: the desks' steps. A look sees the first waiting row of a block's current turn, which above
-- K stands at claimed, and one waits where claimed is not written. A fetch hands over the label of the spot that the
-- desk holds, and a finish adds to finished alone; claim has a file of its own. The grid reads the stage, which is the
-- same on both sides.
use Rattle.std.proofs.Common.{◌≡◌, ℕ, ◌<◌, ◌≤◌, Bool, not, eqb, ltb, set, sym, refl, ap, ◌∙◌, le_refl, arith, eqb→eq, ltb→lt, lt→ltb}
use Rattle.std.proofs.Math.Dec.{not_T}
use Rattle.words.specs.declared.Answer.TheVariants.{Took, Refused}
use Rattle.words.specs.declared.Refusal.TheVariants.{Stage}
use Rattle.book.specs.Sizes.{Size, block_of, current_turn}
use Rattle.book.specs.declared.DeskStep.{DeskStep}
use Rattle.book.specs.declared.DeskStep.TheVariants.{Look as look, Claim as claim, Fetch as fetch, Finish as finish}
use Rattle.book.specs.Steps.{Desk, idle, looked, Hold, holding, claimed_at, with_fetched, is_fetched, hold_of}
use Rattle.book.specs.Verdicts.{takes, refuses, stage, column, at_stage, admitted, lookable}
use Rattle.book.specs.Book.{Book, row_of, waits}
use Rattle.book.specs.Book as B
use Rattle.book.proofs.Choice.{same_test, neq_test, by_test}
use Rattle.book.proofs.Turns.{current_low, current_high}
use Rattle.line.specs.Line.{Line, Spot, nowhere, desk_at, size_of, one_finished, desk_does, desk_step, size_in, here}
use Rattle.line.specs.Agrees.{as_row, Agrees}
use Rattle.line.proofs.DeskMoves.{look_step, fetch_step, finish_step, does_look, does_claim, does_fetch, does_finish}
use Rattle.line.proofs.Current.{Window, each_turn}
use Rattle.line.proofs.Cells.{blocks_of}
use Rattle.line.proofs.Verdicts.{by_verdict₂, refuses_not, admitted_takes, lookable_same, lookable_takes}
use Rattle.line.proofs.Front.{Follows, stays, pos, current, put_turn_lem, written_same, first_above}
use Rattle.line.proofs.Desks.{desk_same, rule, held_current, held_written, sees_not, sees_place, quiet_matches, alone_matches}
use Rattle.line.proofs.FollowsClaim.{claim_follows}

-- up to n, a number is below n if it is another
open_test : (m n : ℕ) → m ≤ n → not (eqb m n) ≡ ltb m n
open_test m n h =
    same_test (not (eqb m n)) (ltb m n)
    (λ s. lt→ltb m n (omega (arith, neq_test m n s)))
    (λ s. not_T (eqb m n) (λ e. omega (arith, eqb→eq m n e, ltb→lt m n s)))

admitted_same : (z : Size) (d : ℕ) (s : DeskStep) (x : Desk Spot) → admitted z d s x ≡ admitted z d s (as_row z x)
unfolding admitted
admitted_same z d s idle = refl
admitted_same z d s (looked x) = refl
admitted_same z d s (holding h) = refl

-- a desk that holds takes no step that neither a claimed nor a fetched desk takes
held_not : (x : Hold Spot) (n : ℕ) → at_stage 2 n ≡ refuses Stage → at_stage 3 n ≡ refuses Stage → at_stage (stage (holding x)) n ≡ takes → ⊥
held_not x n c f = by_test (λ m. at_stage m n ≡ takes → ⊥) (is_fetched x) (λ _ t. refuses_not Stage (sym f ∙ t)) (λ _ t. refuses_not Stage (sym c ∙ t))

module _ (l : Line) (b : Book) (g : Agrees (size_of l.head) l b) where
  abbrev p : ℕ
  p = l.head.p

  module _ (d : ℕ) (h : d < l.head.t) where
    -- ---- look

    module _ (i : ℕ) where
      abbrev t : ℕ
      t = current_turn (size_in l) p i

      abbrev is_open : Bool
      is_open = not (eqb (here l t).claimed (here l t).written)

      look_verdict : lookable (size_in l) p l.head.k i is_open ≡ lookable (size_in l) p b.k i (waits (size_in l) b.rows t)
      unfolding waits
      look_verdict =
          rw g.turn (lookable_same (size_in l) p l.head.k i is_open (waits (size_in l) b.rows t) (λ u a.
          let w : Window (size_in l) p t = record { low = current_low (size_in l) p i; high = current_high (size_in l) p i (pos l b g) u } in
          rw (first_above l b g t a w.low, written_same l b g t w) (open_test (here l t).claimed (here l t).written (current l b g t w).claims)))

      look_follows : Follows (size_in l) (look_step (size_in l) l d i) (B.look_step (size_in l) b d i)
      unfolding look_step B.look_step
      look_follows =
          rw (put_turn_lem l b g)
          (by_verdict₂ (Follows (size_in l)) (lookable (size_in l) p l.head.k i is_open) (lookable (size_in l) p b.k i (waits (size_in l) b.rows t)) look_verdict
          (λ e. let s : Spot = record { turn = t; place = (here l t).claimed } in
          rw (first_above l b g t (lookable_takes (size_in l) p l.head.k i is_open e).1 (current_low (size_in l) p i))
          (record { same = refl; matches = alone_matches l b g d h (looked s) (sees_place l b g l.table s (le_refl (here l t).claimed)) }))
          (λ w. stays (size_in l) l b g (Refused w 0)))

    -- ---- fetch and finish

    module _ (x : Hold Spot) (e : desk_at l.head d ≡ holding x) where
      abbrev s : Spot
      s = x.at

      abbrev y : Hold ℕ
      y = record { at = row_of (size_in l) s.turn s.place; fetched = x.fetched }

      fetch_follows : Follows (size_in l) (fetch_step (size_in l) l d x) (B.fetch_step (size_in l) b d y)
      unfolding fetch_step B.fetch_step
      fetch_follows =
          let r = rule l b g d (holding x) e in
          let w = held_current l b g x r in
          record {
            same = ap Took (g.labels s w.low w.high (held_written l b g x r));
            matches = alone_matches l b g d h (holding (with_fetched x)) (sees_not l b g l.table (holding (with_fetched x)) (λ x. x));
          }

      finish_follows : Follows (size_in l) (finish_step (size_in l) l d x) (B.finish_step (size_in l) b d)
      unfolding finish_step B.finish_step
      finish_follows =
          let w = held_current l b g x (rule l b g d (holding x) e) in
          let c = one_finished (here l s.turn) in
          let tb = set l.table (block_of (size_in l) s.turn) c in
          record {
            same = refl;
            matches = quiet_matches l b g d h idle tb
                (each_turn (size_in l) l.table p s.turn c (pos l b g) (blocks_of (size_in l) l g.lawful) w
                (λ u x. (x.written ≡ (here l u).written) × (x.claimed ≡ (here l u).claimed)) (refl, refl) (λ u _ _. (refl, refl)))
                (sees_not l b g tb idle (λ x. x));
          }

    -- ---- the step that the grid lets the desk take

    does_follows : (s : DeskStep) (x : Desk Spot) → desk_at l.head d ≡ x → at_stage (stage x) (column s) ≡ takes
        → Follows (size_in l) (desk_does (size_in l) l d (hold_of nowhere x) s) (B.desk_does (size_in l) b d (hold_of 0 (as_row (size_in l) x)) s)
    unfolding B.desk_does
    does_follows (look i) x e t = rw (does_look (size_in l) l d (hold_of nowhere x) i) (look_follows i)
    does_follows claim idle e t = absurd (refuses_not Stage t)
    does_follows claim (looked s) e t = rw (does_claim (size_in l) l d (claimed_at s)) (claim_follows l b g d h s e)
    does_follows claim (holding x) e t = absurd (held_not x 1 refl refl t)
    does_follows fetch idle e t = absurd (refuses_not Stage t)
    does_follows fetch (looked s) e t = absurd (refuses_not Stage t)
    does_follows fetch (holding x) e t = rw (does_fetch (size_in l) l d x) (fetch_follows x e)
    does_follows finish idle e t = absurd (refuses_not Stage t)
    does_follows finish (looked s) e t = absurd (refuses_not Stage t)
    does_follows finish (holding x) e t = rw (does_finish (size_in l) l d x) (finish_follows x e)

  pub desk_follows : (d : ℕ) (s : DeskStep) → Follows (size_in l) (desk_step (size_in l) l d s (desk_at l.head d)) (B.desk_step (size_in l) b d s (B.desk_at b d))
  unfolding desk_step B.desk_step
  desk_follows d s =
      let x = desk_at l.head d in
      rw (desk_same l b g d)
      (by_verdict₂ (Follows (size_in l)) (admitted (size_in l) d s x) (admitted (size_in l) d s (as_row (size_in l) x)) (admitted_same (size_in l) d s x)
      (λ e. let a = admitted_takes (size_in l) d s x e in does_follows d a.0 s x refl a.1)
      (λ w. stays (size_in l) l b g (Refused w 0)))
