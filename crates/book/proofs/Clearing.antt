-- Nothing is ever stuck: the desks settle (proofs/Settling.antt), the owner gets until EMPTY (proofs/Emptying.antt), and then K is P, so
-- that turn P + 1 - NB is below K and no put is FULL; nor BUSY, where no desk holds a row. That each row left once is read off the
-- tally of proofs/Counting.antt.
use Rattle.std.proofs.Common.{◌≡◌, ℕ, suc, ◌+◌, ◌-◌, ◌*◌, ◌<◌, ◌≤◌, false, not, ◌&&◌, T, ◌⊎◌, List, [], ◌∷◌, ◌++◌, length, get_or, replicate, sym, refl, ap, ◌∙◌, inl, inr, ⊎_elim, append_assoc, le_refl, arith, ltb→lt, leb→le, nltb→le, T_not, length-append}
use Rattle.std.proofs.Math.ListN.{length-replicate, get_or-eq_default}
use Rattle.words.specs.declared.Answer.{Answer}
use Rattle.words.specs.declared.Answer.TheVariants.{Put, Refused}
use Rattle.words.specs.declared.Refusal.TheVariants.{Worn, Busy, Empty}
use Rattle.book.specs.Choice.{◌<ᵇ◌, ◌≤ᵇ◌}
use Rattle.book.specs.Total.{total}
use Rattle.book.specs.Sizes.{Size, within, fits, is_label, round_of}
use Rattle.book.specs.Steps.{Step, decode, Desk, idle, looked, holding}
use Rattle.book.specs.Verdicts.{Verdict, judge, startable, placeable}
use Rattle.book.specs.Book.{Row, Book, says, refuse, row_at, desk_at, append, put_turn, written, held_in, is_busy, may_put, put_step, does, step, opened, answers, after, leaves}
use Rattle.book.specs.Counts.{unfetched_by, unfetched, times_held, waits_by, waiting, times}
use Rattle.book.specs.Messages.{get}
use Rattle.book.specs.Clearing.{settling, emptying, clearing, IsPlaced, IsWorn, IsBusy, NothingStuck, OnlyBusy}
use Rattle.book.proofs.Choice.{by_test, cases, and_first, and_second}
use Rattle.book.proofs.Total.{total_none, total_replicate, any_at}
use Rattle.book.proofs.Turns.{div_next}
use Rattle.book.proofs.Counting.{Fair, one, only, held, free_unfetched, run_kept, opened_kept}
use Rattle.book.proofs.DeskKinds.{Free}
use Rattle.book.proofs.Fronts.{Gone, Fronts, run_grows, opened_fronts}
use Rattle.book.proofs.Settling.{settling_length, Settled, settled}
use Rattle.book.proofs.Emptying.{all_gone, waiting_most, Emptied, emptied}

-- ---- one run after another

module _ (z : Size) where
  pub after_append : (b : Book) (ss ts : List Step) → after z b (ss ++ ts) ≡ after z (after z b ss) ts
  unfolding after
  after_append b [] ts = refl
  after_append b (s ∷ ss) ts = after_append (step z b s).book ss ts

  pub answers_append : (b : Book) (ss ts : List Step) → answers z b (ss ++ ts) ≡ answers z b ss ++ answers z (after z b ss) ts
  unfolding answers after
  answers_append b [] ts = refl
  answers_append b (s ∷ ss) ts = ap (λ (l : List Answer). (step z b s).answer ∷ l) (answers_append (step z b s).book ss ts)

-- ---- the next put

-- BUSY: a desk holds a row of the turn
holder : (z : Size) (e : Book) (q : ℕ) → T (is_busy z e q) → (d : ℕ) × T (held_in z q (desk_at e d))
unfolding is_busy
holder z e q t = any_at (held_in z q) e.desks idle t

module _ (z : Size) (e : Book) (f : Fronts z e) (two : 2 ≤ z.nb) (read : e.k ≡ put_turn z e.rows) where
  put_out : (a : ℕ) → T (is_label a) → IsPlaced z e a ⊎ IsWorn z e a ⊎ IsBusy z e a
  unfolding step does decode put_step may_put placeable startable
  put_out a label =
      let p = put_turn z e.rows in
      let q = p + 1 - z.nb in
      let O : Verdict → Answer = λ v. (judge v (says (append e a) (Put a)) (refuse e)).answer in
      let J : Verdict → Type 0 = λ v.
      (O v ≡ Put a) ⊎ ((O v ≡ Refused Worn 0) × (round_of z (p + 1) ≡ 65536))
      ⊎ ((O v ≡ Refused Busy 0) × ((q : ℕ) × (q + z.nb ≡ p + 1) × (d : ℕ) × T (held_in z q (desk_at e d)))) in
      by_test J (not (is_label a)) (λ t. absurd (T_not (is_label a) t label)) (λ _.
      by_test J (written z e.rows p <ᵇ z.ne) (λ _. inl refl) (λ _.
      by_test J (65536 ≤ᵇ round_of z (p + 1)) (λ t. inr (inl (refl, omega (arith, f.rounds, div_next z.nb p, leb→le 65536 (round_of z (p + 1)) t)))) (λ _.
      by_test J (p + 1 <ᵇ z.nb) (λ _. inl refl) (λ t.
      by_test J (e.k ≤ᵇ q) (λ u. absurd (omega (arith, nltb→le (p + 1) z.nb t, leb→le e.k q u))) (λ _.
      by_test J (is_busy z e q) (λ b. let h = holder z e q b in inr (inr (refl, (q, omega (arith, nltb→le (p + 1) z.nb t), h.0, h.1)))) (λ _. inl refl))))))

-- ---- what left

module _ (n : ℕ) where
  gone_one : (rs : List Row) → Gone rs n → (only n).gone rs ≡ 1
  unfolding only
  gone_one rs g = rw g refl

  waits_none : (rs : List Row) → (row_at rs n).gone ≡ false → (only n).gone rs ≡ 0
  unfolding only
  waits_none rs w = rw w refl

  gone_most : (rs : List Row) → (only n).gone rs ≤ 1
  unfolding only
  gone_most rs = by_test {A = ℕ} (λ m. m ≤ 1) (row_at rs n).gone {x = 1} {y = 0} (λ _. omega arith) (λ _. omega arith)

free_held : (w : ℕ → ℕ) (ds : List (Desk ℕ)) → ((d : ℕ) → Free (get_or ds d idle)) → held w ds ≡ 0
free_held w ds f = total_none (unfetched_by w) ds idle (λ d. free_unfetched w (get_or ds d idle) (f d))

free_not : (z : Size) (q : ℕ) (x : Desk ℕ) → Free x → T (held_in z q x) → ⊥
unfolding held_in
free_not z q idle f h = h
free_not z q (looked r) f h = h
free_not z q (holding x) f h = f

-- ---- the run that clears a line

pub record Limits (z : Size) : Type 0 where
  pub nb : 2 ≤ z.nb
  pub ne : 0 < z.ne
  pub t : z.t ≤ 16
  pub desk : 1 ≤ z.t

pub limits : (z : Size) → T (fits z) → Limits z
unfolding fits
limits z f =
    let n = within 2 64 z.nb in
    let e = within 1 64 z.ne in
    let d = within 1 16 z.t in
    record {
      nb = leb→le 2 z.nb (and_first (2 ≤ᵇ z.nb) (z.nb ≤ᵇ 64) (and_first n e (and_first (n && e) d f)));
      ne = leb→le 1 z.ne (and_first (1 ≤ᵇ z.ne) (z.ne ≤ᵇ 64) (and_second n e (and_first (n && e) d f)));
      t = leb→le z.t 16 (and_second (1 ≤ᵇ z.t) (z.t ≤ᵇ 16) (and_second (n && e) d f));
      desk = leb→le 1 z.t (and_first (1 ≤ᵇ z.t) (z.t ≤ᵇ 16) (and_second (n && e) d f));
    }

-- the desks settle, and the owner gets w times and once more
abbrev pub clearing_by : ℕ → Book → List Step
clearing_by w b = settling 0 b.desks ++ replicate (suc w) get

module _ (z : Size) (v : Limits z) (b : Book) (fair : Fair z b.rows b.desks) (f : Fronts z b) (w : ℕ) (enough : waiting b ≤ w) where
  -- the book once the desks have settled, and once nothing waits
  abbrev rest : Book
  rest = after z b (settling 0 b.desks)

  abbrev end : Book
  end = after z rest (replicate (suc w) get)

  rest_fronts : Fronts z rest
  rest_fronts = (run_grows z b (settling 0 b.desks) f).fronts

  at_rest : Settled z v.t b rest
  at_rest = settled z v.t b fair.many

  at_end : Emptied z v.ne rest end (answers z rest (replicate (suc w) get))
  at_end = emptied z v.ne w rest rest_fronts (omega (arith, ap (total waits_by) at_rest.rows))

  end_is : after z b (clearing_by w b) ≡ end
  end_is = after_append z b (settling 0 b.desks) (replicate (suc w) get)

  end_free : (d : ℕ) → Free (desk_at end d)
  end_free d = rw at_end.desks (at_rest.free d)

  pub clearing_length : length (clearing_by w b) ≤ 2 * z.t + w + 1
  clearing_length =
      omega (arith, length-append (settling 0 b.desks) (replicate (suc w) get), settling_length 0 b.desks, fair.many, length-replicate (suc w) get)

  pub clearing_ends : (l : List Answer) × (answers z b (clearing_by w b) ≡ l ++ (Refused Empty 0 ∷ []))
  clearing_ends =
      let before = answers z b (settling 0 b.desks) in
      let m = at_end.last.0 in
      (before ++ m, answers_append z b (settling 0 b.desks) (replicate (suc w) get) ∙ ap (λ (l : List Answer). before ++ l) at_end.last.1 ∙ sym (append_assoc before m (Refused Empty 0 ∷ [])))

  pub none_waiting : waiting (after z b (clearing_by w b)) ≡ 0
  none_waiting = rw end_is at_end.none

  pub none_unfetched : unfetched (after z b (clearing_by w b)) ≡ 0
  none_unfetched = rw end_is (free_held one end.desks end_free)

  -- a row leaves once, unless it had gone and no desk held it unfetched
  leaves_once : (n : ℕ) → n < length b.rows → times n (leaves z b (clearing_by w b)) + (only n).gone b.rows ≡ held (only n).weight b.desks + 1
  unfolding only
  leaves_once n h =
      let c = after z b (clearing_by w b) in
      let k = run_kept z b (clearing_by w b) fair in
      let free : held (only n).weight c.desks ≡ 0 = rw end_is (free_held (only n).weight end.desks end_free) in
      let gone = gone_one n c.rows (all_gone c.rows none_waiting n (omega (arith, k.grown))) in
      omega (arith, k.tallied (only n))

  end_next : (a : ℕ) → T (is_label a) → IsPlaced z end a ⊎ IsWorn z end a
  end_next a l =
      ⊎_elim inl (⊎_elim inr (λ h. absurd (free_not z h.1.0 (desk_at end h.1.2) (end_free h.1.2) h.1.3)))
      (put_out z end (run_grows z rest (replicate (suc w) get) rest_fronts).fronts v.nb at_end.read a l)

  pub next_placed : (a : ℕ) → T (is_label a) → IsPlaced z (after z b (clearing_by w b)) a ⊎ IsWorn z (after z b (clearing_by w b)) a
  next_placed a l = rw end_is (end_next a l)

-- what holds of every book that a run reaches
module _ (z : Size) (ss : List Step) where
  abbrev pub reached : Book
  reached = after z (opened z) ss

  pub reached_fair : Fair z reached.rows reached.desks
  reached_fair = (opened_kept z ss).fair

  pub reached_fronts : Fronts z reached
  reached_fronts = (run_grows z (opened z) ss (opened_fronts z)).fronts

  -- a row that a desk holds unfetched is gone, and no two desks hold one
  held_gone : (n : ℕ) → held (only n).weight reached.desks ≤ (only n).gone reached.rows
  unfolding only opened
  held_gone n = omega (arith, (opened_kept z ss).tallied (only n), total_replicate (unfetched_by (only n).weight) z.t idle refl)

  -- so such a row is on the list
  held_in_lem : (n : ℕ) → times_held n reached ≡ 1 → n < length reached.rows
  unfolding only
  held_in_lem n e =
      cases (n <ᵇ length reached.rows) (λ t. ltb→lt n (length reached.rows) t) (λ t. absurd (
      let past = get_or-eq_default reached.rows (record { label = 0; gone = false }) {n = n} (nltb→le n (length reached.rows) t) in
      omega (arith, held_gone n, waits_none n reached.rows (ap (λ (r : Row). r.gone) past))))

  module _ (h : T (fits z)) where
    pub reached_most : waiting reached ≤ z.nb * z.ne
    reached_most = waiting_most z (limits z h).ne reached reached_fronts (omega (arith, (limits z h).nb))

pub nothing_stuck : NothingStuck
unfolding NothingStuck clearing emptying only
nothing_stuck z ss h =
    let b = reached z ss in
    let w = waiting b in
    let v = limits z h in
    let fair = reached_fair z ss in
    let f = reached_fronts z ss in
    let enough = le_refl w in
    record {
      steps = omega (arith, clearing_length z v b fair f w enough, reached_most z ss h);
      empty = clearing_ends z v b fair f w enough;
      none = none_waiting z v b fair f w enough;
      waited = λ n i q. omega (arith, leaves_once z v b fair f w enough n i, held_gone z ss n, waits_none n b.rows q);
      unfetched = λ n e. omega (arith, leaves_once z v b fair f w enough n (held_in_lem z ss n e), held_gone z ss n, e, gone_most n b.rows);
      next = next_placed z v b fair f w enough;
    }

-- the owner gets w times and once more, and the desks are silent
pub silent : (z : Size) (ss : List Step) (w a : ℕ) → T (fits z) → waiting (reached z ss) ≤ w → T (is_label a)
    → let e = after z (reached z ss) (replicate (suc w) get) in
    IsPlaced z e a ⊎ IsWorn z e a ⊎ IsBusy z e a
silent z ss w a h enough l =
    let b = reached z ss in
    let v = limits z h in
    let f = reached_fronts z ss in
    put_out z (after z b (replicate (suc w) get)) (run_grows z b (replicate (suc w) get) f).fronts v.nb (emptied z v.ne w b f enough).read a l

pub only_busy : OnlyBusy
unfolding OnlyBusy emptying
only_busy z ss a h l = silent z ss (waiting (reached z ss)) a h (le_refl (waiting (reached z ss))) l
