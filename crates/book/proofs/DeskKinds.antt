-- A desk's step is one of six: SEEN, CLAIMED, LOST, TOOK, DONE, or a refusal that changes nothing. What holds of each of
-- them holds of every step of a desk. And what one desk's change leaves of the others.
use Rattle.std.proofs.Common.{◌≡◌, ℕ, zero, suc, ◌%◌, ◌<◌, Bool, not, ◌&&◌, T, List, [], ◌∷◌, get_or, set, refl, arith}
use Rattle.std.proofs.Math.Dec.{nleb→lt}
use Rattle.words.specs.declared.Answer.TheVariants.{Took, Seen, Claimed, Done, Refused}
use Rattle.words.specs.declared.Refusal.{Refusal}
use Rattle.words.specs.declared.Refusal.TheVariants.{Owned, Nothing, Lost}
use Rattle.words.specs.Words.{refusal}
use Rattle.book.specs.Choice.{◌≤ᵇ◌, ◌≡ᵇ◌}
use Rattle.book.specs.Sizes.{Size, is_used, current_turn, is_owned}
use Rattle.book.specs.Steps.{DeskStep, look, claim, fetch, finish, Hold, Desk, idle, looked, holding, claimed_at, with_fetched, is_fetched, hold_of}
use Rattle.book.specs.Verdicts.{Verdict, takes, refuses, judge, stage, column, at_stage, no_block, admitted, lookable}
use Rattle.book.specs.Book.{Book, Outcome, says, hands, refuse, row_at, desk_at, with_desk, mark_gone, put_turn, row_of, first, waits, look_step, winnable, claim_step, fetch_step, finish_step, desk_does, desk_step}
use Rattle.book.proofs.Choice.{by_test, T→true, and_first, and_second}

-- LOST is the refusal of number 9
abbrev pub is_lost : Refusal → Bool
is_lost w = (refusal w).0 ≡ᵇ 9

-- a desk that holds nothing
abbrev pub Free : Desk ℕ → Type 0
Free idle = Unit {0}
Free (looked r) = Unit {0}
Free (holding h) = ⊥

-- a look is refused, not by LOST, or block c is used, its turn is above K, and a row of it waits
module _ (z : Size) (p k c : ℕ) where
  above_k : T (not (is_owned z p k c)) → T (is_used z p c) → k < current_turn z p c
  unfolding is_owned
  above_k o u = nleb→lt (current_turn z p c) k (rw (T→true (is_used z p c) u) at o)

  by_look : (w : Bool) (Q : Verdict → Type 0)
      → ((x : Refusal) → T (not (is_lost x)) → Q (refuses x)) → (k < current_turn z p c → T w → Q takes) → Q (lookable z p k c w)
  unfolding lookable
  by_look w Q refused seen =
      by_test Q (is_owned z p k c) (λ _. refused Owned tt) (λ o.
      by_test Q (is_used z p c && w)
      (λ v. seen (above_k o (and_first (is_used z p c) w v)) (and_second (is_used z p c) w v))
      (λ _. refused Nothing tt))

module _ (z : Size) (b : Book) (P : Outcome → Type 0) where
  pub record Kinds : Type 0 where
    pub refused : (w : Refusal) → T (not (is_lost w)) → P (refuse b w)
    pub seen : (d t : ℕ) → d < z.t → Free (desk_at b d) → b.k < t → T (waits z b.rows t)
        → P (says (with_desk b d (looked (row_of z t (first z b.rows t)))) (Seen (first z b.rows t)))
    pub won : (d r : ℕ) → d < z.t → desk_at b d ≡ looked r → T (winnable z b.rows b.k r)
        → P (says (record b { rows = mark_gone b.rows r; desks = set b.desks d (holding (claimed_at r)) }) (Claimed (r % z.ne)))
    pub lost : (d r : ℕ) → d < z.t → desk_at b d ≡ looked r → T (not (winnable z b.rows b.k r)) → P (says (with_desk b d idle) (Refused Lost 0))
    pub took : (d : ℕ) (h : Hold ℕ) → d < z.t → desk_at b d ≡ holding h → T (not (is_fetched h))
        → P (hands (with_desk b d (holding (with_fetched h))) (Took (row_at b.rows h.at).label) h.at)
    pub done : (d : ℕ) (h : Hold ℕ) → d < z.t → desk_at b d ≡ holding h → T (is_fetched h) → P (says (with_desk b d idle) Done)

  module _ (k : Kinds) where
    abbrev Judged : Outcome → Verdict → Type 0
    Judged o v = P (judge v o (refuse b))

    module _ (d : ℕ) (i : d < z.t) where
      look_kind : (c : ℕ) → Free (desk_at b d) → P (look_step z b d c)
      unfolding look_step
      look_kind c free =
          let p = put_turn z b.rows in
          let t = current_turn z p c in
          let place = first z b.rows t in
          by_look z p b.k c (waits z b.rows t) (Judged (says (with_desk b d (looked (row_of z t place))) (Seen place)))
          k.refused (λ above w. k.seen d t i free above w)

      -- the desk that wins holds row n, which is the row seen
      won_kind : (r n : ℕ) → n ≡ r → desk_at b d ≡ looked r → T (winnable z b.rows b.k r)
          → P (says (record b { rows = mark_gone b.rows r; desks = set b.desks d (holding (claimed_at n)) }) (Claimed (r % z.ne)))
      won_kind r n q e w = rw q (k.won d r i e w)

      claim_kind : (r : ℕ) → desk_at b d ≡ looked r → P (claim_step z b d r)
      unfolding claim_step
      claim_kind r e = by_test P (winnable z b.rows b.k r) (λ w. won_kind r _ (omega arith) e w) (λ l. k.lost d r i e l)

      -- the grid, a stage at a time: of its sixteen cells five are taken
      abbrev At : ℕ → Hold ℕ → DeskStep → Type 0
      At n h s = Judged (desk_does z b d h s) (at_stage n (column s))

      claimed_kind : (h : Hold ℕ) → desk_at b d ≡ holding h → T (not (is_fetched h)) → (s : DeskStep) → At 2 h s
      unfolding desk_does fetch_step
      claimed_kind h e u (look c) = k.refused _ tt
      claimed_kind h e u claim = k.refused _ tt
      claimed_kind h e u fetch = k.took d h i e u
      claimed_kind h e u finish = k.refused _ tt

      fetched_kind : (h : Hold ℕ) → desk_at b d ≡ holding h → T (is_fetched h) → (s : DeskStep) → At 3 h s
      unfolding desk_does finish_step
      fetched_kind h e f (look c) = k.refused _ tt
      fetched_kind h e f claim = k.refused _ tt
      fetched_kind h e f fetch = k.refused _ tt
      fetched_kind h e f finish = k.done d h i e f

      grid_kind : (x : Desk ℕ) (s : DeskStep) → desk_at b d ≡ x → At (stage x) (hold_of 0 x) s
      unfolding desk_does
      grid_kind idle (look c) e = look_kind c (rw e tt)
      grid_kind idle claim e = k.refused _ tt
      grid_kind idle fetch e = k.refused _ tt
      grid_kind idle finish e = k.refused _ tt
      grid_kind (looked r) (look c) e = look_kind c (rw e tt)
      grid_kind (looked r) claim e = claim_kind r e
      grid_kind (looked r) fetch e = k.refused _ tt
      grid_kind (looked r) finish e = k.refused _ tt
      grid_kind (holding h) s e = by_test (λ n. At n h s) (is_fetched h) (λ f. fetched_kind h e f s) (λ u. claimed_kind h e u s)

    pub desk_kind : (d : ℕ) (s : DeskStep) → P (desk_step z b d s (desk_at b d))
    unfolding desk_step admitted
    desk_kind d s =
        by_test (Judged _) (z.t ≤ᵇ d) (λ _. k.refused _ tt) (λ t.
        by_test (Judged _) (no_block z s) (λ _. k.refused _ tt) (λ _. grid_kind d (nleb→lt z.t d t) (desk_at b d) s refl))

-- ---- one desk changes

-- where one desk becomes x, what holds of x and of each desk still holds of each
pub each_desk : (Q : Desk ℕ → Type 0) (l : List (Desk ℕ)) (d c : ℕ) (x : Desk ℕ) → Q x → ((i : ℕ) → Q (get_or l i idle)) → Q (get_or (set l d x) c idle)
each_desk Q [] d c x q h = h c
each_desk Q (y ∷ ys) zero zero x q h = q
each_desk Q (y ∷ ys) zero (suc c) x q h = h (suc c)
each_desk Q (y ∷ ys) (suc d) zero x q h = h 0
each_desk Q (y ∷ ys) (suc d) (suc c) x q h = each_desk Q ys d c x q (λ i. h (suc i))
