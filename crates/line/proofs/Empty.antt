-- When a get on a sound line is EMPTY: exactly if no label waits, in turn K from the reading place on, and in the turns after K.
-- A get reads at the spot that it has reached. Below turn P each record is full, so a spot where nothing is read is left for the next
-- turn's, up to turn P; and NB - 1 moves are enough to get there, by rule 1. Both ways are one induction over the moves left.
use Rattle.std.proofs.Common.{◌≡◌, ℕ, zero, suc, ◌+◌, ◌-◌, ◌<◌, ◌≤◌, Bool, not, ◌&&◌, T, ◌↔◌, ap, ◌∙◌, ap₂, le_refl, arith, ltb→lt, nltb→le, T_not, le-ltb}
use Rattle.book.specs.Choice.{◌<ᵇ◌, ◌≡ᵇ◌}
use Rattle.book.proofs.Choice.{cases, and_in, and_second, eq→eqb, by_order}
use Rattle.line.specs.Line.{Line, Spot, taken_over, reach, size_in, here}
use Rattle.line.specs.Rules.{Sound}
use Rattle.line.proofs.Onward.{by_moves}
use Rattle.line.proofs.Cells.{Cell, cell}

module _ (l : Line) where
  abbrev P : ℕ
  P = l.head.p

  -- where a get begins to read, and the spot that it reaches
  abbrev pub reading : Spot
  reading = record { turn = l.head.k; place = l.head.reading }

  abbrev pub reached : Spot
  reached = reach (size_in l) (l.head.nb - 1) l.table P reading

  -- a label is read at spot r; no label waits at spot s or in the turns after it
  abbrev pub is_read : Spot → Bool
  is_read r = r.place <ᵇ (here l r.turn).written

  abbrev pub NoneFrom : Spot → Type 0
  NoneFrom s = (s.place ≡ (here l s.turn).written) × ((t : ℕ) → s.turn < t → t ≤ P → (here l t).claimed ≡ (here l t).written)

  -- the end of turn P
  abbrev spot : ℕ → ℕ → Spot
  spot t q = record { turn = t; place = q }

  abbrev pub end : Spot
  end = spot P (here l P).written

  abbrev AtEnd : Spot → Type 0
  AtEnd r = T (not (is_read r)) → r ≡ end

  abbrev Ends : Spot → Spot → Type 0
  Ends s r = T (not (is_read r)) ↔ NoneFrom s

  -- ---- one spot

  at_once : (s : Spot) → T (is_read s) → Ends s s
  at_once s b = let h = ltb→lt s.place (here l s.turn).written b in (λ f. absurd (T_not (is_read s) f b), λ x. absurd (omega (arith, x.0)))

  at_last : (s : Spot) → s.place ≤ (here l s.turn).written → P ≤ s.turn → Ends s s
  at_last s h k =
      let w = (here l s.turn).written in
      (λ f. (omega (arith, nltb→le s.place w f), λ t a b. absurd (omega arith)), λ x. rw (le-ltb s.place w (omega (arith, x.0))) tt)

  -- the next turn's spot
  abbrev onward : Spot → Spot
  onward s = taken_over (size_in l) l.table s

  moved : (s r : Spot) → s.place ≡ (here l s.turn).written → s.turn < P → Ends (onward s) r → Ends s r
  moved s r e h x = (
    λ f. let (q, c) = x.0 f in (e, λ t a b. by_order t (suc s.turn) (λ y. absurd (omega arith)) (λ y. rw y q) (λ y. c t y b)),
    λ n. let c = n.1 in x.1 (c (suc s.turn) (omega arith) h, λ t a. c t (omega arith)),
  )

  -- ---- the spots on the way

  -- a spot of the window, with n moves left
  record Reads (n : ℕ) (s : Spot) : Type 0 where
    from : l.head.k ≤ s.turn
    to : s.turn ≤ P
    enough : P ≤ s.turn + n
    place : s.place ≤ (here l s.turn).written

  module _ (pos : 0 < l.head.nb) (g : Sound l) where
    of_turn_lem : (t : ℕ) → l.head.k ≤ t → t ≤ P → Cell l t
    of_turn_lem t h k = cell l pos g t (record { low = k; high = omega (arith, g.one.near) })

    goes_on : (n : ℕ) (s : Spot) → Reads (suc n) s → s.turn < P → Reads n (onward s)
    goes_on n s r h = record {
      from = omega (arith, r.from);
      to = h;
      enough = omega (arith, r.enough);
      place = (of_turn_lem (suc s.turn) (omega (arith, r.from)) h).claims;
    }

    -- below turn P a record is full
    is_last : (n : ℕ) (s : Spot) → Reads n s → s.place ≡ (here l s.turn).written → T (not (s.place ≡ᵇ l.head.ne && s.turn <ᵇ P)) → P ≤ s.turn
    is_last n s r e f =
        let full = s.place ≡ᵇ l.head.ne in
        let below = s.turn <ᵇ P in
        cases below
        (λ b. let w = (of_turn_lem s.turn r.from r.to).full (ltb→lt s.turn P b) in
        absurd (T_not (full && below) f (and_in full below (eq→eqb s.place l.head.ne (e ∙ w)) b)))
        (nltb→le s.turn P)

    -- nothing is left to read in its turn
    read_out : {n : ℕ} (s : Spot) → Reads n s → T (not (is_read s)) → s.place ≡ (here l s.turn).written
    read_out s r b = omega (arith, nltb→le s.place (here l s.turn).written b, r.place)

    reach_ends : (n : ℕ) (s : Spot) → Reads n s → Ends s (reach (size_in l) n l.table P s)
    unfolding reach
    reach_ends zero s r = at_last s r.place (omega (arith, r.enough))
    reach_ends (suc n) s r =
        let full = s.place ≡ᵇ l.head.ne in
        let below = s.turn <ᵇ P in
        by_moves (size_in l) P (here l s.turn) s (Ends s) (at_once s)
        (λ b m. let h = ltb→lt s.turn P (and_second full below m) in moved s _ (read_out s r b) h (reach_ends n (onward s) (goes_on n s r h)))
        (λ b m. at_last s r.place (is_last (suc n) s r (read_out s r b) m))

    begins : Reads (l.head.nb - 1) reading
    begins = record { from = le_refl l.head.k; to = g.one.below; enough = omega (arith, g.one.near); place = g.two.to }

    pub empty_when : T (not (is_read reached)) ↔ NoneFrom reading
    empty_when = reach_ends (l.head.nb - 1) reading begins

    -- ---- and the spot that it reaches is then the end of turn P

    at_end : (n : ℕ) (s : Spot) → Reads n s → P ≤ s.turn → T (not (is_read s)) → s ≡ end
    at_end n s r h f =
        let t : s.turn ≡ P = omega (arith, r.to) in
        let q = read_out s r f in
        ap₂ (λ (i j : ℕ). spot i j) t (q ∙ ap (λ (i : ℕ). (here l i).written) t)

    reach_end : (n : ℕ) (s : Spot) → Reads n s → T (not (is_read (reach (size_in l) n l.table P s))) → reach (size_in l) n l.table P s ≡ end
    unfolding reach
    reach_end zero s r = at_end zero s r (omega (arith, r.enough))
    reach_end (suc n) s r =
        let full = s.place ≡ᵇ l.head.ne in
        let below = s.turn <ᵇ P in
        by_moves (size_in l) P (here l s.turn) s AtEnd (λ b f. absurd (T_not (is_read s) f b))
        (λ b m. reach_end n (onward s) (goes_on n s r (ltb→lt s.turn P (and_second full below m))))
        (λ b m. at_end (suc n) s r (is_last (suc n) s r (read_out s r b) m))

    pub empty_end : T (not (is_read reached)) → reached ≡ end
    empty_end = reach_end (l.head.nb - 1) reading begins
