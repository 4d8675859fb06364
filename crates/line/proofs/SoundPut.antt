-- A put that is taken, and so an order, leaves a sound line sound. Into turn P: only written of P grows. A new turn P + 1 takes
-- the block of turn Q = P + 1 - NB, if there is one. The put is not FULL, so K is above Q and stays in the window; not BUSY, so
-- by rule 7 nobody holds a spot of Q, and every spot that is held stays current; a look at Q is no longer asked about written.
-- Nobody holds a spot of P + 1, since a turn that is held is at most P. Not WORN says that P + 1 is below 65,536 x NB.
use Rattle.std.proofs.Common.{◌≡◌, ℕ, zero, suc, ◌+◌, ◌-◌, ◌*◌, ◌<◌, ◌≤◌, not, ◌≢◌, set, Ok, Err, refl, ap, ◌∙◌, subst, div-lt_iff_lt-mul, arith, eqb→eq, ltb→lt, nltb→le, length-set}
use Rattle.std.proofs.Math.Dec.{nleb→lt}
use Rattle.book.specs.Choice.{◌<ᵇ◌, ◌≤ᵇ◌, ◌≡ᵇ◌}
use Rattle.book.specs.Sizes.{Size, is_label, is_order, block_of, round_of}
use Rattle.book.specs.Steps.{idle}
use Rattle.book.specs.Verdicts.{Verdict, takes, startable, placeable}
use Rattle.book.proofs.Choice.{by_test, by_verdict, cases, T→true, not→false, neq_test}
use Rattle.book.proofs.Total.{total_zero, total_none}
use Rattle.line.specs.Line.{Line, LentDesk, Block, Spot, Outcome, numbers_of, desk_of, desk_at, size_of, one_written, entry_of, size_in, here}
use Rattle.line.specs.Line.{is_busy, may_put, new_turn, room, room_of, labelled, with_label, put_step, put_many, order_step}
use Rattle.line.specs.Rules.{held_in, Holds, DeskRule}
use Rattle.line.specs.Agrees.{Lawful}
use Rattle.line.proofs.Current.{current→window, window→current, record_apart, record_later, each_turn}
use Rattle.line.proofs.Cells.{held, Stands}
use Rattle.line.proofs.ByTurns.{In, ByTurns, told, some_block, lawful}
use Rattle.line.proofs.Kept.{desk_lent, held_one, held_none, held_rule, desk_kept, Grows, three_record, told_record}

module _ (l : Line) (g : ByTurns l) where
  abbrev p : ℕ
  p = l.head.p

  last : In l p
  last = record { low = omega arith; high = omega (arith, some_block l g) }

  -- ---- one more label in turn P

  module _ (a : ℕ) (space : (here l p).written < l.head.ne) where
    abbrev c : Block
    c = one_written (here l p)

    abbrev entry : ℕ
    entry = entry_of (size_in l) p (here l p).written

    one_written_lem : Stands (size_in l) p l.head.desks p c
    one_written_lem = let s = g.turns p last in record {
      round = s.round;
      fits = space;
      full = λ b. absurd (omega arith);
      some = λ _ _. omega arith;
      claims = omega (arith, s.claims);
      zeroth = s.zeroth;
      holders = s.holders;
    }

    grows : Grows l p c
    grows = record { turn = last; claims = omega arith; writes = omega arith; reading = λ e. rw e at g.two.from }

    same_lawful : Lawful (size_in l) (labelled (size_in l) l a (room (size_in l) p (here l p).written c))
    same_lawful =
        let es = set l.entries entry a in
        lawful (labelled (size_in l) l a (room (size_in l) p (here l p).written c))
        (told_record l g p c grows es l.head.desks g.many (length-set l.entries entry a) one_written_lem (λ _ _. refl) (three_record l g p c grows es))

  -- ---- the first label of turn P + 1

  abbrev next : ℕ
  next = p + 1

  abbrev new : Block
  new = new_turn (round_of (size_in l) next)

  held_in_lem : (d : ℕ) (x : Spot) → Holds (desk_at l.head d) x → In l x.turn
  held_in_lem d x h = current→window (size_in l) p x.turn (some_block l g) (held_rule l (desk_at l.head d) x h (g.three.desks d)).0

  none_next : held l.head.desks next ≡ 0
  none_next =
      total_none (λ (y : LentDesk). held_in next (desk_of y)) l.head.desks (numbers_of idle)
      (λ d. held_none (desk_at l.head d) next (λ x h e. omega (arith, (held_in_lem d x h).low)))

  -- what the tests leave: K stays in the window, nobody holds a spot of turn Q, and the round is not worn
  record Free : Type 0 where
    near : next < l.head.k + l.head.nb
    spare : (q : ℕ) → q + l.head.nb ≡ next → held l.head.desks q ≡ 0
    fresh : next < 65536 * l.head.nb

  module _ (a : ℕ) (full : l.head.ne ≤ (here l p).written) (f : Free) where
    abbrev l' : Line
    l' = labelled (size_in l) l a (room (size_in l) next 0 new)

    first : In l' next
    first = record { low = omega arith; high = omega (arith, some_block l g) }

    -- a turn of the new window up to P is one of the old window, and keeps its record
    before : (u : ℕ) → u ≤ p → In l' u → In l u × (here l' u ≡ here l u)
    before u h v = (record { low = h; high = omega (arith, v.high) }, record_apart (size_in l) l.table next new next u first v (λ e. omega arith))

    -- a turn that is held is not Q
    stays : (d : ℕ) (x : Spot) → Holds (desk_at l.head d) x → In l' x.turn
    stays d x h =
        let v = held_in_lem d x h in
        let t = x.turn in
        let held : LentDesk → ℕ = λ y. held_in t (desk_of y) in
        cases (t + l.head.nb ≡ᵇ next)
        (λ e. let none = f.spare t (eqb→eq (t + l.head.nb) next e) in
        absurd (omega (arith, held_one (desk_at l.head d) x h, total_zero held l.head.desks d (numbers_of idle) (ap (held_in t) (desk_lent idle)) none)))
        (λ e. let n = neq_test (t + l.head.nb) next e in record { low = omega (arith, v.low); high = omega (arith, v.high) })

    desk_stays : (d : ℕ) → DeskRule l' (desk_at l.head d)
    desk_stays d =
        let pos = some_block l g in
        desk_kept l l' refl (omega arith)
        (λ u h c. let b = before u h (current→window (size_in l) next u pos c) in (window→current (size_in l) p u pos b.0, rw b.1 (omega arith)))
        (desk_at l.head d)
        (λ x h _. let v = stays d x h in (window→current (size_in l) next x.turn pos v, rw (before x.turn (held_in_lem d x h).low v).1 (omega arith)))
        (g.three.desks d)

    new_turn_lem : Stands (size_in l) next l.head.desks next new
    new_turn_lem = record {
      round = refl;
      fits = g.valid.ne;
      full = λ b. absurd (omega arith);
      some = λ _ _. omega arith;
      claims = omega arith;
      zeroth = λ _. refl;
      holders = omega (arith, none_next);
    }

    full_upto : (u : ℕ) → In l u → (here l u).written ≡ l.head.ne
    full_upto u v =
        cases (u <ᵇ p) (λ b. (g.turns u v).full (ltb→lt u p b))
        (λ b. let e : u ≡ p = omega (arith, nltb→le u p b, v.low) in rw e (omega (arith, (g.turns p last).fits)))

    old_turn : (u : ℕ) → In l' u → u ≢ next → Stands (size_in l) next l.head.desks u (here l u)
    old_turn u w n =
        let v = (before u (omega (arith, w.low)) w).0 in
        let s = g.turns u v in
        record {
          round = s.round;
          fits = s.fits;
          full = λ _. full_upto u v;
          some = λ e. absurd (n e);
          claims = s.claims;
          zeroth = s.zeroth;
          holders = s.holders;
        }

    next_lawful : Lawful (size_in l) l'
    next_lawful =
        let k = (before l.head.k g.one.below (record { low = omega (arith, g.one.below); high = f.near })).1 in
        lawful l' (record {
          valid = g.valid;
          blocks = length-set l.table (block_of (size_in l) next) new ∙ g.blocks;
          room = length-set l.entries (entry_of (size_in l) next 0) a ∙ g.room;
          many = g.many;
          one = record { below = omega (arith, g.one.below); near = omega (arith, f.near); rounds = f.fresh };
          two = record { from = rw k g.two.from; to = rw k g.two.to };
          three = record { stages = g.three.stages; idles = g.three.idles; desks = desk_stays; apart = g.three.apart };
          turns = each_turn (size_in l) l.table next next new (some_block l g) g.blocks first (Stands (size_in l) next l.head.desks) new_turn_lem old_turn;
          blanks = λ u h i. record_later (size_in l) l.table next new u h i ∙ g.blanks u (omega arith) i;
        })

  -- ---- the tests of a put

  -- the line is lawful where the verdict takes
  abbrev Judged : Line → Verdict → Type 0
  Judged m (Ok u) = Lawful (size_in l) m
  Judged m (Err w) = Unit {0}

  start_lawful : (a : ℕ) → l.head.ne ≤ (here l p).written → Judged (labelled (size_in l) l a (room (size_in l) next 0 new)) (startable (size_in l) l.head.k (is_busy (here l (next - l.head.nb))) next)
  unfolding startable
  start_lawful a full =
      let q = next - l.head.nb in
      let P = Judged (labelled (size_in l) l a (room (size_in l) next 0 new)) in
      by_test P (65536 ≤ᵇ round_of (size_in l) next) (λ _. tt) (λ worn.
      let fresh = (div-lt_iff_lt-mul {k = l.head.nb} {x = next} {y = 65536} (some_block l g)).0 (nleb→lt 65536 (round_of (size_in l) next) worn) in
      by_test P (next <ᵇ l.head.nb)
      (λ b. let c = ltb→lt next l.head.nb b in next_lawful a full (record { near = omega arith; spare = λ u e. absurd (omega arith); fresh = fresh })) (λ b.
      let c = nltb→le next l.head.nb b in
      by_test P (l.head.k ≤ᵇ q) (λ _. tt) (λ room.
      by_test P (is_busy (here l q)) (λ _. tt) (λ busy.
      let s = g.turns q (record { low = omega arith; high = omega arith }) in
      let none : held l.head.desks q ≡ 0 = omega (arith, s.holders, nltb→le (here l q).finished (here l q).claimed busy) in
      next_lawful a full (record {
        near = omega (arith, nleb→lt l.head.k q room);
        spare = λ u e. rw (let i : u ≡ q = omega arith in i) none;
        fresh = fresh;
      })))))

  own_stored : (a : ℕ) → Judged (with_label (size_in l) l a) (may_put (size_in l) l a)
  unfolding may_put placeable with_label room_of
  own_stored a =
      let w = (here l p).written in
      by_test (Judged (with_label (size_in l) l a)) (not (is_label a)) (λ _. tt) (λ _.
      cases (w <ᵇ l.head.ne)
      (λ s. rw (T→true (w <ᵇ l.head.ne) s) (same_lawful a (ltb→lt w l.head.ne s)))
      (λ s. rw (not→false (w <ᵇ l.head.ne) s) (start_lawful a (nltb→le w l.head.ne s))))

pub stored_lawful : (z : Size) (l : Line) (a : ℕ) → Lawful z l → may_put z l a ≡ takes → Lawful z (with_label z l a)
stored_lawful z l a w =
    subst (λ (x : Size). Lawful x l → may_put x l a ≡ takes → Lawful x (with_label x l a)) w.size
    (λ v e. let g = told l v in subst (Judged l g (with_label (size_of l.head) l a)) e (own_stored l g a)) w

-- ---- put and order: a refusal leaves the line, and what was placed stays

pub put_lawful : (z : Size) (l : Line) (a : ℕ) → Lawful z l → Lawful z (put_step z l a).line
unfolding put_step
put_lawful z l a w = by_verdict (λ (o : Outcome). Lawful z o.line) (may_put z l a) (stored_lawful z l a w) (λ _ _. w)

many_lawful : (z : Size) (n : ℕ) (l : Line) (a count : ℕ) → Lawful z l → Lawful z (put_many z n l a count).line
unfolding put_many
many_lawful z zero l a count w = w
many_lawful z (suc n) l a count w =
    by_verdict (λ (o : Outcome). Lawful z o.line) (may_put z l a)
    (λ e. many_lawful z n (with_label z l a) (suc a) (suc count) (stored_lawful z l a w e)) (λ _ _. w)

pub order_lawful : (z : Size) (l : Line) (a e : ℕ) → Lawful z l → Lawful z (order_step z l a e).line
unfolding order_step
order_lawful z l a e w = by_test (λ (o : Outcome). Lawful z o.line) (is_order a e) (λ _. many_lawful z (suc e - a) l a 0 w) (λ _. w)
