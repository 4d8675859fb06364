-- A get leaves a sound line sound. It moves only K and the reading place, and only to a spot where the owner may read: its turn
-- is from K to P, its place from claimed to written of that turn. Where the owner moves on, the new place is claimed of the next
-- turn, which rule 6 bounds by written; where a label is handed over, the place was below written and grows by one.
use Rattle.std.proofs.Common.{ℕ, zero, suc, ◌-◌, ◌<◌, ◌≤◌, subst, arith, ltb→lt}
use Rattle.book.specs.Choice.{◌<ᵇ◌, ◌≡ᵇ◌}
use Rattle.book.specs.Sizes.{Size}
use Rattle.book.proofs.Choice.{by_test, and_second}
use Rattle.line.specs.Line.{Line, Spot, Outcome, with_head, get_at, taken_over, reach, read_at, get_step, size_in, here}
use Rattle.line.specs.Agrees.{Lawful}
use Rattle.line.proofs.Onward.{by_moves}
use Rattle.line.proofs.ByTurns.{ByTurns, told, lawful}

module _ (l : Line) (g : ByTurns l) where
  record Readable (s : Spot) : Type 0 where
    low : l.head.k ≤ s.turn
    high : s.turn ≤ l.head.p
    from : (here l s.turn).claimed ≤ s.place
    to : s.place ≤ (here l s.turn).written

  moves : (s : Spot) → Readable s → Lawful (size_in l) (with_head l (get_at l.head s))
  moves s r = lawful (with_head l (get_at l.head s)) (record {
    valid = g.valid;
    blocks = g.blocks;
    room = g.room;
    many = g.many;
    one = record { below = r.high; near = omega (arith, g.one.near, r.low); rounds = g.one.rounds };
    two = record { from = r.from; to = r.to };
    three = record { stages = g.three.stages; idles = g.three.idles; desks = g.three.desks; apart = g.three.apart };
    turns = g.turns;
    blanks = g.blanks;
  })

  -- the owner moves on
  on : (s : Spot) → Readable s → s.turn < l.head.p → Readable (taken_over (size_in l) l.table s)
  on s r b =
      let c = g.turns (suc s.turn) (record { low = b; high = omega (arith, g.one.near, r.low) }) in
      record { low = omega (arith, r.low); high = b; from = omega arith; to = c.claims }

  reach_readable : (n : ℕ) (s : Spot) → Readable s → Readable (reach (size_in l) n l.table l.head.p s)
  unfolding reach
  reach_readable zero s r = r
  reach_readable (suc n) s r =
      by_moves (size_in l) l.head.p (here l s.turn) s Readable (λ _. r)
      (λ _ m. reach_readable n _ (on s r (ltb→lt s.turn l.head.p (and_second (s.place ≡ᵇ l.head.ne) (s.turn <ᵇ l.head.p) m))))
      (λ _ _. r)

  read_lawful : (s : Spot) → Readable s → Lawful (size_in l) (read_at (size_in l) l s).line
  unfolding read_at
  read_lawful s r =
      let next : Spot = record { turn = s.turn; place = suc s.place } in
      by_test (λ (o : Outcome). Lawful (size_in l) o.line) (s.place <ᵇ (here l s.turn).written)
      (λ b. moves next (record { low = r.low; high = r.high; from = omega (arith, r.from); to = ltb→lt s.place (here l s.turn).written b }))
      (λ _. moves s r)

  own_get : Lawful (size_in l) (get_step (size_in l) l).line
  unfolding get_step
  own_get =
      let s : Spot = record { turn = l.head.k; place = l.head.reading } in
      read_lawful _ (reach_readable (l.head.nb - 1) s (record { low = omega arith; high = g.one.below; from = g.two.from; to = g.two.to }))

pub get_lawful : (z : Size) (l : Line) → Lawful z l → Lawful z (get_step z l).line
get_lawful z l w = subst (λ (x : Size). Lawful x l → Lawful x (get_step x l).line) w.size (λ v. own_get l (told l v)) w
