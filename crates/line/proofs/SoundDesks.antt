-- The desks' steps leave a sound line sound. A look, a LOST claim and a fetch change one desk, which holds what it held. A claim
-- that is won raises claimed of a current turn above K, and its desk takes the place that was claimed: it is below written, as
-- rule 3 says of the look, and nobody held it, since every place that is held is below claimed. Turn 0 is never claimed, being
-- at most K. A finish raises finished, and the turn has one holder less.
use Rattle.std.proofs.Common.{◌≡◌, ℕ, ◌<◌, not, ◌&&◌, T, ◌≢◌, length, set, sym, refl, ap, ◌∙◌, subst, arith, le→leb, eqb→eq, leb→le, length-set, ne_eqb}
use Rattle.std.proofs.Math.Dec.{nleb→lt}
use Rattle.std.proofs.Math.Nat.{mod-le}
use Rattle.book.specs.Choice.{◌≤ᵇ◌, ◌≡ᵇ◌}
use Rattle.book.specs.Sizes.{Size, block_of, current_turn, is_used, is_owned}
use Rattle.book.specs.declared.DeskStep.{DeskStep}
use Rattle.book.specs.declared.DeskStep.TheVariants.{Look as look, Claim as claim, Fetch as fetch, Finish as finish}
use Rattle.book.specs.Steps.{Desk, idle, looked, Hold, holding, claimed_at, with_fetched, is_fetched, hold_of}
use Rattle.book.specs.Verdicts.{Verdict, judge, stage, column, at_stage, no_block, admitted, lookable}
use Rattle.book.proofs.Choice.{by_test, and_first, and_second, T→true, neq_test}
use Rattle.book.proofs.Turns.{current_low, current_high}
use Rattle.line.specs.Line.{Line, Block, Spot, Outcome, nowhere, numbers_of, desk_at, with_desk, with_head, size_in, here}
use Rattle.line.specs.Line.{one_claimed, one_finished, refuse, desk_does, desk_step}
use Rattle.line.specs.Line as L
use Rattle.line.specs.Rules.{held_in, Holds, DeskRule}
use Rattle.line.specs.Agrees.{Lawful}
use Rattle.line.proofs.DeskMoves.{with_record, look_step, winnable, claim_step, fetch_step, finish_step, does_look, does_claim, does_fetch, does_finish}
use Rattle.line.proofs.Current.{current→window, window→current, record_same}
use Rattle.line.proofs.Cells.{Stands}
use Rattle.line.proofs.ByTurns.{In, ByTurns, told, some_block, lawful}
use Rattle.line.proofs.Kept.{held_one, held_rule, holders_set, Apart, three_desk, stands_by, Grows, three_record, told_record}

module _ (l : Line) (g : ByTurns l) where
  abbrev p : ℕ
  p = l.head.p

  -- the line after a step by verdict: that of o where it takes
  abbrev Judged : Outcome → Verdict → Type 0
  Judged o v = Lawful (size_in l) (judge v o (refuse l)).line

  unchanged : Lawful (size_in l) l
  unchanged = lawful l g

  module _ (d : ℕ) (below : d < l.head.t) where
    abbrev was : Desk Spot
    was = desk_at l.head d

    there : d < length l.head.desks
    there = omega (arith, g.many)

    -- ---- desk d becomes x, and holds what it held

    becomes : (x : Desk Spot) → DeskRule l x → ((u : ℕ) → held_in u x ≡ held_in u was) → ((s : Spot) → Holds x s → Holds was s)
        → Lawful (size_in l) (with_head l (with_desk l.head d x))
    becomes x rule same held = lawful (with_head l (with_desk l.head d x)) (record {
      valid = g.valid;
      blocks = g.blocks;
      room = g.room;
      many = length-set l.head.desks d (numbers_of x) ∙ g.many;
      one = record { below = g.one.below; near = g.one.near; rounds = g.one.rounds };
      two = record { from = g.two.from; to = g.two.to };
      three = three_desk l d x there g.three (λ e n s a b. g.three.apart e d s n b (held s a)) below rule;
      turns = λ t w. stands_by (omega (arith, holders_set l.head d x there t, same t)) (g.turns t w);
      blanks = g.blanks;
    })

    sees : (t : ℕ) → In l t → (here l t).claimed ≢ (here l t).written → ((u : ℕ) → held_in u was ≡ 0)
        → Lawful (size_in l) (with_head l (with_desk l.head d (looked (record { turn = t; place = (here l t).claimed }))))
    sees t v n none =
        let s = g.turns t v in
        becomes (looked (record { turn = t; place = (here l t).claimed }))
        (v.low, omega (arith, s.claims, s.fits), λ _. omega (arith, s.claims)) (λ u. sym (none u)) (λ _ h. absurd h)

    look_lawful : (i : ℕ) → ((u : ℕ) → held_in u was ≡ 0) → Lawful (size_in l) (look_step (size_in l) l d i).line
    unfolding look_step lookable
    look_lawful i none =
        let t = current_turn (size_in l) p i in
        let c = here l t in
        let used = is_used (size_in l) p i in
        let waits = not (c.claimed ≡ᵇ c.written) in
        by_test (Judged _) (is_owned (size_in l) p l.head.k i) (λ _. unchanged) (λ _.
        by_test (Judged _) (used && waits)
        (λ m. sees t (record { low = current_low (size_in l) p i; high = current_high (size_in l) p i (some_block l g) (leb→le i p (and_first used waits m)) })
        (neq_test c.claimed c.written (and_second used waits m)) none)
        (λ _. unchanged))

    fetch_lawful : (x : Hold Spot) → was ≡ holding x → Lawful (size_in l) (fetch_step (size_in l) l d x).line
    unfolding fetch_step
    fetch_lawful x e = becomes (holding (with_fetched x)) (rw e at (g.three.desks d)) (λ u. rw e refl) (λ _ h. rw e h)

    -- ---- desk d becomes x, and the record of turn t becomes c

    both : (x : Desk Spot) (t : ℕ) (c : Block) → Grows l t c → Stands (size_in l) p (set l.head.desks d (numbers_of x)) t c
        → ((u : ℕ) → u ≢ t → held_in u x ≡ held_in u was) → DeskRule (with_record (size_in l) l l.head t c) x → ((e : ℕ) → e ≢ d → Apart x (desk_at l.head e))
        → Lawful (size_in l) (with_record (size_in l) l (with_desk l.head d x) t c)
    both x t c r new others rule apart =
        lawful (with_record (size_in l) l (with_desk l.head d x) t c)
        (told_record l g t c r l.entries (set l.head.desks d (numbers_of x)) (length-set l.head.desks d (numbers_of x) ∙ g.many) refl new
        (λ u n. omega (arith, holders_set l.head d x there u, others u n))
        (three_desk (with_record (size_in l) l l.head t c) d x there (three_record l g t c r l.entries) apart below rule))

    -- ---- claim

    module _ (s : Spot) (e : was ≡ looked s) (w : T (winnable (size_in l) l s)) where
      abbrev t : ℕ
      t = s.turn

      -- what the tests say, and the look
      record Won : Type 0 where
        turn : In l t
        above : l.head.k < t
        still : (here l t).claimed ≡ s.place
        space : s.place < (here l t).written

      won : Won
      unfolding winnable L.wins is_owned
      won =
          let i = block_of (size_in l) t in
          let a = current_turn (size_in l) p i ≡ᵇ t in let o = not (is_owned (size_in l) p l.head.k i) in let b = (here l t).claimed ≡ᵇ s.place in
          let c : current_turn (size_in l) p i ≡ t = eqb→eq (current_turn (size_in l) p i) t (and_first a o (and_first (a && o) b w)) in
          let v = current→window (size_in l) p t (some_block l g) c in
          let used : T (is_used (size_in l) p i) = le→leb i p (omega (arith, mod-le t l.head.nb, v.low)) in
          let seen : DeskRule l (looked s) = rw e at (g.three.desks d) in
          record {
            turn = v;
            above = nleb→lt t l.head.k (rw (T→true (is_used (size_in l) p i) used, c) at (and_second a o (and_first (a && o) b w)));
            still = eqb→eq (here l t).claimed s.place (and_second (a && o) b w);
            space = seen.2 c;
          }

      abbrev c : Block
      c = one_claimed (here l t)

      one_claimed_lem : Stands (size_in l) p (set l.head.desks d (numbers_of (holding (claimed_at s)))) t c
      one_claimed_lem = let o = g.turns t won.turn in record {
        round = o.round;
        fits = o.fits;
        full = o.full;
        some = o.some;
        claims = omega (arith, won.still, won.space);
        zeroth = λ k. absurd (omega (arith, won.above));
        holders = omega (arith, o.holders, holders_set l.head d (holding (claimed_at s)) there t, held_one (holding (claimed_at s)) s refl, ap (held_in t) e);
      }

      nobody : (i : ℕ) → i ≢ d → Apart (holding (claimed_at s)) (desk_at l.head i)
      nobody i _ x k h =
          let b : s.place < (here l t).claimed = rw (← k) at (held_rule l (desk_at l.head i) x h (g.three.desks i)).1 in
          omega (arith, won.still)

      grows : Grows l t c
      grows = record { turn = won.turn; claims = omega arith; writes = omega arith; reading = λ k. absurd (omega (arith, won.above)) }

      wins : Lawful (size_in l) (with_record (size_in l) l (with_desk l.head d (holding (claimed_at s))) t c)
      wins =
          both (holding (claimed_at s)) t c grows one_claimed_lem
          (λ u n. rw (e, ne_eqb t u (λ k. n (sym k))) refl)
          (window→current (size_in l) p t (some_block l g) won.turn, rw (record_same (size_in l) l.table t c (some_block l g) g.blocks) (omega (arith, won.still)))
          nobody

    claim_lawful : (s : Spot) → was ≡ looked s → Lawful (size_in l) (claim_step (size_in l) l d s).line
    unfolding claim_step
    claim_lawful s e = by_test (λ (o : Outcome). Lawful (size_in l) o.line) (winnable (size_in l) l s) (wins s e) (λ _. becomes idle tt (λ u. rw e refl) (λ _ h. absurd h))

    -- ---- finish

    module _ (x : Hold Spot) (e : was ≡ holding x) where
      abbrev held : ℕ
      held = x.at.turn

      held_turn_lem : In l held
      held_turn_lem = let r : DeskRule l (holding x) = rw e at (g.three.desks d) in current→window (size_in l) p held (some_block l g) r.0

      one_finished_lem : Stands (size_in l) p (set l.head.desks d (numbers_of idle)) held (one_finished (here l held))
      one_finished_lem = let o = g.turns held held_turn_lem in record {
        round = o.round;
        fits = o.fits;
        full = o.full;
        some = o.some;
        claims = o.claims;
        zeroth = o.zeroth;
        holders = omega (arith, o.holders, holders_set l.head d idle there held, held_one (holding x) x.at refl, ap (held_in held) e);
      }

      finish_lawful : Lawful (size_in l) (finish_step (size_in l) l d x).line
      unfolding finish_step
      finish_lawful =
          both idle held (one_finished (here l held))
          (record { turn = held_turn_lem; claims = omega arith; writes = omega arith; reading = λ k. rw k at g.two.from }) one_finished_lem
          (λ u n. rw (e, ne_eqb held u (λ k. n (sym k))) refl) tt (λ _ _ _ h. absurd h)

    -- ---- the grid, a stage at a time

    abbrev At : ℕ → Hold Spot → DeskStep → Type 0
    At n x s = Judged (desk_does (size_in l) l d x s) (at_stage n (column s))

    looks : (i : ℕ) (x : Hold Spot) → ((u : ℕ) → held_in u was ≡ 0) → At 0 x (look i)
    looks i x none = rw (does_look (size_in l) l d x i) (look_lawful i none)

    claimed_lawful : (x : Hold Spot) (s : DeskStep) → was ≡ holding x → At 2 x s
    claimed_lawful x (look i) e = unchanged
    claimed_lawful x claim e = unchanged
    claimed_lawful x fetch e = rw (does_fetch (size_in l) l d x) (fetch_lawful x e)
    claimed_lawful x finish e = unchanged

    fetched_lawful : (x : Hold Spot) (s : DeskStep) → was ≡ holding x → At 3 x s
    fetched_lawful x (look i) e = unchanged
    fetched_lawful x claim e = unchanged
    fetched_lawful x fetch e = unchanged
    fetched_lawful x finish e = rw (does_finish (size_in l) l d x) (finish_lawful x e)

    at_stage_lem : (x : Desk Spot) (s : DeskStep) → was ≡ x → At (stage x) (hold_of nowhere x) s
    at_stage_lem idle (look i) e = looks i _ (λ u. ap (held_in u) e)
    at_stage_lem idle claim e = unchanged
    at_stage_lem idle fetch e = unchanged
    at_stage_lem idle finish e = unchanged
    at_stage_lem (looked s) (look i) e = looks i _ (λ u. ap (held_in u) e)
    at_stage_lem (looked s) claim e = rw (does_claim (size_in l) l d (claimed_at s)) (claim_lawful s e)
    at_stage_lem (looked s) fetch e = unchanged
    at_stage_lem (looked s) finish e = unchanged
    at_stage_lem (holding x) s e = by_test (λ n. At n x s) (is_fetched x) (λ _. fetched_lawful x s e) (λ _. claimed_lawful x s e)

  own_desk : (d : ℕ) (s : DeskStep) → Lawful (size_in l) (desk_step (size_in l) l d s (desk_at l.head d)).line
  unfolding desk_step admitted
  own_desk d s =
      by_test (Judged _) (l.head.t ≤ᵇ d) (λ _. unchanged) (λ b.
      by_test (Judged _) (no_block (size_in l) s) (λ _. unchanged) (λ _. at_stage_lem d (nleb→lt l.head.t d b) (desk_at l.head d) s refl))

pub desk_lawful : (z : Size) (l : Line) (d : ℕ) (s : DeskStep) → Lawful z l → Lawful z (desk_step z l d s (desk_at l.head d)).line
desk_lawful z l d s w =
    subst (λ (x : Size). Lawful x l → Lawful x (desk_step x l d s (desk_at l.head d)).line) w.size (λ v. own_desk l (told l v) d s) w
