-- Demand 3 over the book: what is lost is paid for, T - 1 by each claim won and T by each turn that K moves on.
-- A desk's look is dead if the row it saw can no longer be won. A claim is lost exactly by a dead look, and the desk is then idle.
-- A win leaves at most T - 1 looks dead, a move of K at most T, and no other step makes a look dead. So for each step
--   lost + dead + T × K(before) ≤ dead(before) + (T - 1) × won + T × K,
-- and by adding up for each run, with K ≤ P and exactly T desks throughout.
use Rattle.std.proofs.Common.{◌≡◌, ℕ, zero, suc, ◌+◌, ◌-◌, ◌*◌, ◌/◌, ◌<◌, ◌≤◌, not, T, List, [], ◌∷◌, length, set, if◌then◌else◌, refl, ap, ◌∙◌, zero-le, le_trans, mul-le-mul_left, arith, ltb→lt, nltb→le, length-append, length-set, lt-ltb}
use Rattle.std.proofs.Math.ListN.{length-replicate}
use Rattle.words.specs.declared.Answer.TheVariants.{Refused}
use Rattle.book.specs.Choice.{◌<ᵇ◌, ◌≤ᵇ◌}
use Rattle.book.specs.Total.{total}
use Rattle.book.specs.Sizes.{Size, is_label, is_order, round_of}
use Rattle.book.specs.Steps.{Step, DeskStep, Deed, decode, Hold, Desk, idle, looked, holding, claimed_at, with_fetched}
use Rattle.book.specs.Verdicts.{Verdict, judge, startable, placeable}
use Rattle.book.specs.Book.{Row, Book, Outcome, says, row_at, desk_at, with_desk, append, mark_gone, put_turn, row_of, written, first, waits, is_busy, may_put, put_step, put_many, order_step}
use Rattle.book.specs.Book.{read_turn, get_at, get_step, winnable, desk_step, does, step, opened, answers, after}
use Rattle.book.specs.Counts.{count, won, lost, bound}
use Rattle.book.specs.Demands.{Placed, Bounded}
use Rattle.book.proofs.Choice.{by_test, cases, T→true, not→false, and_second}
use Rattle.book.proofs.Total.{total_set, total_mono, total_le, total_below, total_replicate}
use Rattle.book.proofs.Turns.{div_mono}
use Rattle.book.proofs.Deeds.{by_deed}
use Rattle.book.proofs.DeskKinds.{is_lost, desk_kind}
use Rattle.book.proofs.Counting.{placed_rows}
use Rattle.book.proofs.Rows.{row_turn, first_fits, first_waits, read_from_lem, read_to, row_append, mark_length, mark_other}

module _ (z : Size) where
  -- ---- dead looks, and what is paid

  abbrev dead_by : List Row → ℕ → Desk ℕ → ℕ
  dead_by rs k idle = 0
  dead_by rs k (looked r) = if winnable z rs k r then 0 else 1
  dead_by rs k (holding h) = 0

  abbrev dead : Book → ℕ
  dead b = total (dead_by b.rows b.k) b.desks

  record Fit (b : Book) : Type 0 where
    many : length b.desks ≡ z.t
    reached : b.k ≤ put_turn z b.rows

  -- what a step or a run from book b to book c pays for
  record Paid (b c : Book) (lost won : ℕ) : Type 0 where
    fit : Fit c
    paid : lost + dead c + z.t * b.k ≤ dead b + (z.t - 1) * won + z.t * c.k

  -- a step with outcome o; and a step by verdict: o where it takes, else a refusal with value n
  abbrev Pays : Book → Outcome → Type 0
  Pays b o = Paid b o.book (count o.answer).lost (count o.answer).won

  abbrev Judged : Book → Outcome → ℕ → Verdict → Type 0
  Judged b o n v = Pays b (judge v o (λ w. says b (Refused w n)))

  dead_one : (rs : List Row) (k : ℕ) (x : Desk ℕ) → dead_by rs k x ≤ 1
  dead_one rs k idle = zero-le
  dead_one rs k (looked r) = by_test (λ n. n ≤ 1) (winnable z rs k r) (λ _. omega arith) (λ _. omega arith)
  dead_one rs k (holding h) = zero-le

  -- where each row that could be won still can, no more looks are dead
  module _ (rs qs : List Row) (k : ℕ) (keep : (r : ℕ) → T (winnable z rs k r) → T (winnable z qs k r)) where
    dead_less : (x : Desk ℕ) → dead_by qs k x ≤ dead_by rs k x
    dead_less idle = zero-le
    dead_less (looked r) =
        by_test (λ n. dead_by qs k (looked r) ≤ n) (winnable z rs k r)
        (λ t. rw (T→true (winnable z qs k r) (keep r t)) zero-le) (λ _. dead_one qs k (looked r))
    dead_less (holding h) = zero-le

    dead_kept : (l : List (Desk ℕ)) → total (dead_by qs k) l ≤ total (dead_by rs k) l
    dead_kept = total_mono (dead_by qs k) (dead_by rs k) dead_less

  module _ (b : Book) (f : Fit b) where
    -- a refusal other than LOST
    stays : Paid b b 0 0
    stays = record { fit = f; paid = omega arith }

    -- ---- get: K moves on, perhaps by no turn, and the row that is marked is of turn K, where no claim is won

    moves : (rs : List Row) (t : ℕ) → b.k ≤ t → t ≤ put_turn z rs → ((r : ℕ) → T (winnable z b.rows t r) → T (winnable z rs t r))
        → Paid b (record { rows = rs; k = t; desks = b.desks }) 0 0
    moves rs t h l keep = record {
      fit = record { many = f.many; reached = l };
      paid =
          cases (b.k <ᵇ t)
          (λ s. omega (arith, total_le (dead_by rs t) (dead_one rs t) b.desks, mul-le-mul_left z.t (ltb→lt b.k t s)))
          (λ s. let e : b.k ≡ t = omega (arith, nltb→le b.k t s) in rw e (omega (arith, dead_kept b.rows rs t keep b.desks)));
    }

    mark_keeps : (n t : ℕ) → n / z.ne ≡ t → (r : ℕ) → T (winnable z b.rows t r) → T (winnable z (mark_gone b.rows n) t r)
    unfolding winnable
    mark_keeps n t e r w =
        let above = ltb→lt t (r / z.ne) (and_second (not (row_at b.rows r).gone) (t <ᵇ r / z.ne) w) in
        rw (mark_other b.rows n r (λ q. omega (arith, ap (λ (m : ℕ). m / z.ne) q))) w

    get_at_paid : (t : ℕ) → b.k ≤ t → t ≤ put_turn z b.rows → Pays b (get_at z b t)
    unfolding get_at put_turn
    get_at_paid t h l =
        let place = first z b.rows t in
        by_test (Pays b) (waits z b.rows t)
        (λ w. moves (mark_gone b.rows (row_of z t place)) t h (rw mark_length l) (mark_keeps (row_of z t place) t (row_turn z t place (first_fits z b.rows t w))))
        (λ _. moves b.rows t h l (λ r w. w))

    get_paid : Pays b (get_step z b)
    unfolding get_step
    get_paid =
        let n = put_turn z b.rows - b.k in
        get_at_paid (read_turn z n b.rows b.k) (read_from_lem z n b.rows b.k) (omega (arith, read_to z n b.rows b.k))

    -- ---- the steps of desk d

    module _ (d : ℕ) (h : d < z.t) where
      -- desk d becomes x: a dead look that it gives up pays for a claim lost
      changes : (x : Desk ℕ) (lost : ℕ) → lost + dead_by b.rows b.k x ≤ dead_by b.rows b.k (desk_at b d) → Paid b (with_desk b d x) lost 0
      changes x lost l = record {
        fit = record { many = length-set b.desks d x ∙ f.many; reached = f.reached };
        paid = omega (arith, total_set (dead_by b.rows b.k) b.desks d x idle (omega arith));
      }

      -- the row that a look sees waits, and its turn is above K: the look is not dead
      sees : (t : ℕ) → b.k < t → T (waits z b.rows t) → Paid b (with_desk b d (looked (row_of z t (first z b.rows t)))) 0 0
      unfolding winnable
      sees t l w =
          let place = first z b.rows t in
          changes (looked (row_of z t place)) 0 (rw (first_waits z b.rows t w, row_turn z t place (first_fits z b.rows t w), lt-ltb b.k t l) zero-le)

      -- the desk that wins has no look, so at most T - 1 are dead
      wins : (x : Hold ℕ) → Paid b (record b { rows = mark_gone b.rows x.at; desks = set b.desks d (holding x) }) 0 1
      unfolding put_turn
      wins x =
          let rs = mark_gone b.rows x.at in
          record {
            fit = record { many = length-set b.desks d (holding x) ∙ f.many; reached = rw mark_length f.reached };
            paid = omega (arith, total_below (dead_by rs b.k) (dead_one rs b.k) b.desks d (holding x) (omega arith) refl);
          }

    desk_paid : (d : ℕ) (s : DeskStep) → Pays b (desk_step z b d s (desk_at b d))
    desk_paid = desk_kind z b (Pays b) (record {
      refused = λ w n. rw (not→false (is_lost w) n) stays;
      seen = λ d t i _ l w. sees d i t l w;
      won = λ d r i _ _. wins d i (claimed_at r);
      lost = λ d r i e n. changes d i idle 1 (rw (e, not→false (winnable z b.rows b.k r) n) (omega arith));
      took = λ d x i _ _. changes d i (holding (with_fetched x)) 0 zero-le;
      done = λ d x i _ _. changes d i idle 0 zero-le;
    })

    -- ---- put and order: no refusal of a put is LOST, and one more row makes no look dead

    fit_append : (a : ℕ) → Fit (append b a)
    unfolding put_turn
    fit_append a = record { many = f.many; reached = le_trans f.reached (div_mono z.ne (simp length-append (omega arith))) }

    append_keeps : (a r : ℕ) → T (winnable z b.rows b.k r) → T (winnable z (append b a).rows b.k r)
    unfolding winnable
    append_keeps a r w = rw (row_append b.rows a r) w

    -- what is paid for from the book with one more row is paid for from the book before it
    places : (a n : ℕ) (o : Outcome) → Pays (append b a) o → Judged b o n (may_put z b a)
    unfolding may_put placeable startable
    places a n o p =
        let P = Judged b o n in
        let next = put_turn z b.rows + 1 in
        let q : Pays b o = record { fit = p.fit; paid = omega (arith, dead_kept b.rows (append b a).rows b.k (append_keeps a) b.desks) } in
        by_test P (not (is_label a)) (λ _. stays) (λ _.
        by_test P (written z b.rows (put_turn z b.rows) <ᵇ z.ne) (λ _. q) (λ _.
        by_test P (65536 ≤ᵇ round_of z next) (λ _. stays) (λ _.
        by_test P (next <ᵇ z.nb) (λ _. q) (λ _.
        by_test P (b.k ≤ᵇ next - z.nb) (λ _. stays) (λ _.
        by_test P (is_busy z b (next - z.nb)) (λ _. stays) (λ _. q))))))

  put_paid : (b : Book) (a : ℕ) → Fit b → Pays b (put_step z b a)
  unfolding put_step
  put_paid b a f = places b f a 0 _ (stays (append b a) (fit_append b f a))

  many_paid : (n : ℕ) (b : Book) (a c : ℕ) → Fit b → Pays b (put_many z n b a c)
  unfolding put_many
  many_paid zero b a c f = stays b f
  many_paid (suc n) b a c f = places b f a c _ (many_paid n (append b a) (suc a) (suc c) (fit_append b f a))

  order_paid : (b : Book) (a e : ℕ) → Fit b → Pays b (order_step z b a e)
  unfolding order_step
  order_paid b a e f = by_test (Pays b) (is_order a e) (λ _. many_paid (suc e - a) b a 0 f) (λ _. stays b f)

  -- ---- every step, and every run

  deed_paid : (b : Book) (s : Deed) → Fit b → Pays b (does z b s)
  deed_paid b s f =
      by_deed z b (Pays b) (record { puts = λ a. put_paid b a f; gets = get_paid b f; orders = λ a e. order_paid b a e f; desks = desk_paid b f; unlists = stays b f }) s

  run_paid : (b : Book) (ss : List Step) → Fit b → Paid b (after z b ss) (lost (answers z b ss)) (won (answers z b ss))
  unfolding answers after step total
  run_paid b [] f = stays b f
  run_paid b (s ∷ ss) f =
      let p = deed_paid b (decode s) f in
      let r = run_paid (step z b s).book ss p.fit in
      record { fit = r.fit; paid = omega arith }

pub lost_bound : (z : Size) (ss : List Step)
    → let l = answers z (opened z) ss in
    lost l ≤ (z.t - 1) * won l + z.t * put_turn z (after z (opened z) ss).rows
unfolding opened
lost_bound z ss =
    let r = run_paid z (opened z) ss (record { many = length-replicate z.t idle; reached = zero-le }) in
    omega (arith, total_replicate (dead_by z [] 0) z.t idle refl, mul-le-mul_left z.t r.fit.reached)

-- the rows of the book are the labels placed
pub bounded : Bounded
unfolding Bounded Placed bound put_turn
bounded z ss = rw (placed_rows z ss) at (lost_bound z ss)
