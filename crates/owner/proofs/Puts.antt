-- A put on a lent line, over the numbers and the two records that the code reads.
use Rattle.std.proofs.Common.{◌≡◌, ℕ, suc, ◌+◌, ◌-◌, ◌*◌, ◌/◌, ◌%◌, ◌<◌, ◌≤◌, Bool, true, false, leb, List, get_or, drop, set, Ok, Err, Result, sym, refl, ap, ◌∙◌, subst, add-one, arith, ltb→lt, drop-set-lt, le-ltb}
use Rattle.std.proofs.Math.Dec.{nleb→lt}
use Rattle.std.proofs.Math.Nat.{mod-eq-sub-mod}
use Rattle.words.specs.declared.Refusal.{Refusal}
use Rattle.words.specs.declared.Refusal.TheVariants.{Notlabel, Worn}
use Rattle.words.specs.declared.Answer.TheVariants.{Put, Refused}
use Rattle.book.specs.Choice.{◌<ᵇ◌}
use Rattle.book.specs.Sizes.{Size, is_label}
use Rattle.book.specs.Verdicts.{Verdict, takes, refuses, judge, startable, placeable}
use Rattle.book.proofs.Choice.{by_test, cases, T→true, not→false}
use Rattle.line.specs.declared.Block.{Block}
use Rattle.line.specs.declared.Head.{Head}
use Rattle.line.specs.declared.Room.{Room}
use Rattle.line.specs.Line.{Line, says, unused, size_of, new_turn, record_of, entry_of, put_at, is_busy, may_put, room_of, labelled, with_label, put_step, put_many}
use Rattle.line.specs.Agrees.{Lawful}
use Rattle.line.proofs.Sound.{stored_lawful}
use Rattle.line.proofs.Verdicts.{refuses_not, placeable_same}
use Rattle.byvalue.specs.Lent.{line_of}
use Rattle.byvalue.specs.GivenBack.{given, back_of}
use Rattle.byvalue.specs.Ready.{Ready}
use Rattle.byvalue.specs.Entries.{Stands}
use Rattle.byvalue.proofs.Lent.{lent_set}
use Rattle.byvalue.proofs.GivenBack.{back_lent, refused}
use Rattle.byvalue.proofs.Ready.{sizes, blocks, turns, block_below, record_at_lem, stands}
use Rattle.ring.proofs.Backward.{next_block}

-- ---- the verdict, and the room where it takes

-- the round of a turn that may be started fits
start_round : (z : Size) (k next : ℕ) (b : Bool) → startable z k b next ≡ takes → next / z.nb < 65536
unfolding startable
start_round z k next b e =
    cases (leb 65536 (next / z.nb))
    (λ s. absurd (refuses_not Worn (rw (T→true (leb 65536 (next / z.nb)) s) at e)))
    (λ s. nleb→lt 65536 (next / z.nb) s)

-- so does that of a label that goes into the next turn
pub round_fits : (z : Size) (p written k : ℕ) (b : Bool) (a : ℕ) → placeable z p written k b a ≡ takes → z.ne ≤ written → (p + 1) / z.nb < 65536
unfolding placeable
round_fits z p written k b a e n =
    cases (is_label a)
    (λ s. start_round z k (p + 1) b (rw (T→true (is_label a) s, le-ltb written z.ne n) at e))
    (λ s. absurd (refuses_not Notlabel (rw (not→false (is_label a) s) at e)))

-- a room where the verdict takes, its refusal where it refuses
abbrev pub roomed : Verdict → Room → Result Room Refusal
roomed v g = judge v (Ok g) (λ w. Err w)

pub is_roomed : (v : Verdict) (g r : Room) → v ≡ takes → g ≡ r → Ok g ≡ roomed v r
is_roomed v g r e f = rw (e, f)

pub roomed_takes : (v : Verdict) (g r : Room) → Ok g ≡ roomed v r → (v ≡ takes) × (g ≡ r)
roomed_takes (Ok tt) g r e = (refl, (cc))
roomed_takes (Err w) g r e = absurd (cc)

pub roomed_refuses : (v : Verdict) (w : Refusal) (r : Room) → Err w ≡ roomed v r → v ≡ refuses w
roomed_refuses (Ok tt) w r e = absurd (cc)
roomed_refuses (Err x) w r e = (cc)

module _ (z : Size) (p i : ℕ) (c : Block) where
  -- a room in turn P
  pub room_here : (n : ℕ) → i ≡ p % z.nb → c.written <ᵇ z.ne ≡ true → n ≡ c.written
      → record { turn = p; block = i; place = n; after = record c { written = c.written + 1 } } ≡ room_of z p c
  unfolding room_of
  room_here n at e m = rw (at, e, m, add-one)

  -- and in turn P + 1
  pub room_next : (r : ℕ) → i ≡ (p + 1) % z.nb → c.written <ᵇ z.ne ≡ false → r ≡ (p + 1) / z.nb
      → record { turn = p + 1; block = i; place = 0; after = new_turn r } ≡ room_of z p c
  unfolding room_of
  room_next r at e f = rw (at, e, f)

-- ---- on a ready line

-- what a put reads: turn P stands in block i
pub record Reads (h : Head) (t : List Block) (es : List ℕ) (i : ℕ) : Type 0 where
  pub ready : Ready h t es
  pub here : i ≡ h.p % h.nb

-- and writes: label a goes to room g, and the entries are then fs
pub record Writes (h : Head) (t : List Block) (es : List ℕ) (i a : ℕ) (g : Room) (fs : List ℕ) : Type 0 where
  pub room : g ≡ room_of (size_of h) h.p (get_or t i unused)
  pub entries : fs ≡ set es (g.block * h.ne + g.place) a

module _ {h : Head} {t : List Block} {es : List ℕ} {i : ℕ} (x : Reads h t es i) where
  abbrev z : Size
  z = size_of h

  abbrev l : Line
  l = line_of h t h.nb es

  abbrev current : Block
  current = get_or t i unused

  -- the next turn's block, and its record
  abbrev j : ℕ
  j = (i + 1) % h.nb

  abbrev old : Block
  old = get_or t j unused

  few : h.nb ≤ 64
  few = (blocks h t es x.ready).1

  pub room_asks : (1 ≤ h.nb) × (h.nb ≤ 64) × (h.ne ≤ 64) × (h.p < 65536 * 64)
  room_asks = let r = x.ready in ((blocks h t es r).0, few, (sizes h t es r).ne_most, turns h t es r)

  next_at : j ≡ (h.p + 1) % h.nb
  next_at = next_block h.nb h.p i j x.here refl

  record_here : current ≡ record_of z l.table h.p
  record_here = record_at_lem h t es x.ready h.p i x.here

  -- turn Q stands in the next turn's block
  busy_at : h.nb ≤ h.p + 1 → is_busy old ≡ is_busy (record_of z l.table (h.p + 1 - h.nb))
  busy_at k = ap is_busy (record_at_lem h t es x.ready (h.p + 1 - h.nb) j (next_at ∙ mod-eq-sub-mod k))

  -- a room is in the block of its turn, at a place of it
  module _ (g : Room) (e : g ≡ room_of z h.p current) where
    pub room_block : g.block ≡ g.turn % h.nb
    unfolding room_of
    room_block = rw e (by_test (λ (r : Room). r.block ≡ r.turn % h.nb) (current.written <ᵇ h.ne) (λ s. refl) (λ s. refl))

    pub room_below : g.block < 64
    room_below = let b = block_below h t es x.ready g.turn g.block room_block in omega arith

    room_place : g.place < h.ne
    unfolding room_of
    room_place =
        rw e (by_test (λ (r : Room). r.place < h.ne) (current.written <ᵇ h.ne) (λ s. ltb→lt current.written h.ne s) (λ s. (sizes h t es x.ready).ne))

    pub room_stands : Stands h.ne g.block g.place es
    room_stands = stands h t es x.ready g.turn g.block room_block g.place room_place

  module _ (a : ℕ) where
    abbrev pub verdict : Verdict
    verdict = placeable z h.p current.written h.k (is_busy old) a

    may_put_lem : verdict ≡ may_put z l a
    unfolding may_put placeable startable
    may_put_lem =
        rw (← record_here) (placeable_same z h.p current.written h.k (is_busy old) (is_busy (record_of z l.table (h.p + 1 - h.nb))) a busy_at)

    -- ---- it is refused
    module _ (w : Refusal) (e : verdict ≡ refuses w) where
      pub put_refused : given (Refused w 0) h t es ≡ back_of t h.nb (put_step z l a)
      unfolding put_step
      put_refused = rw (← may_put_lem, e) (refused h t h.nb es w)

      pub many_refused : (n count : ℕ) → put_many z (suc n) l a count ≡ says l (Refused w count)
      unfolding put_many
      many_refused n count = rw (← may_put_lem, e)

    -- ---- it is taken
    module _ (e : verdict ≡ takes) where
      module _ {g : Room} {fs : List ℕ} (y : Writes h t es i a g fs) where
        abbrev after : Line
        after = line_of (put_at h g.turn) (set t g.block g.after) h.nb fs

        at : g.block ≡ g.turn % h.nb
        at = room_block g y.room

        below : g.block < h.nb
        below = (block_below h t es x.ready g.turn g.block at).0

        room_is : room_of z h.p (record_of z l.table h.p) ≡ g
        unfolding room_of
        room_is = rw (← record_here) (sym y.room)

        labelled_after : labelled z l a g ≡ after
        unfolding entry_of
        labelled_after = rw (y.entries, ← at, lent_set h.nb few t g.block g.after below)

        stored_after : with_label z l a ≡ after
        unfolding with_label
        stored_after = ap (labelled z l a) room_is ∙ labelled_after

        pub ready_after : Ready (put_at h g.turn) (set t g.block g.after) fs
        ready_after = subst (Lawful z) stored_after (stored_lawful z l a x.ready (sym may_put_lem ∙ e))

        -- the records that were not lent stay as they are
        pub kept : drop h.nb (set t g.block g.after) ≡ drop h.nb t
        kept = drop-set-lt h.nb t g.block g.after below

        pub put_taken : given (Put a) (put_at h g.turn) (set t g.block g.after) fs ≡ back_of t h.nb (put_step z l a)
        unfolding put_step
        put_taken = rw (← may_put_lem, e, stored_after) (back_lent h.nb few t (set t g.block g.after) (put_at h g.turn) fs (Put a) kept)

        pub many_taken : (n count : ℕ) → put_many z (suc n) l a count ≡ put_many z n after (suc a) (suc count)
        unfolding put_many
        many_taken n count = rw (← may_put_lem, e, stored_after)
