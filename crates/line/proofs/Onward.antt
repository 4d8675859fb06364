-- A get moves on, or reads where it is, or is at the end: the three ways of one test, `moves_on`. And how far a get moves.
use Rattle.std.proofs.Common.{◌≡◌, ℕ, zero, suc, ◌+◌, ◌-◌, ◌≤◌, not, ◌&&◌, T, List, if◌then◌else◌, sym, refl, subst, arith}
use Rattle.book.specs.Choice.{◌<ᵇ◌, ◌≡ᵇ◌}
use Rattle.book.specs.Sizes.{Size}
use Rattle.book.proofs.Choice.{by_test, by_verdict, cases, T→true, not→false}
use Rattle.line.specs.Line.{Line, Block, Spot, Outcome, size_of, record_of, moves_on, taken_over, reach, read_at, get_step, does}
use Rattle.line.specs.Check.{check}
use Rattle.line.specs.Calls.{passes, step}
use Rattle.line.specs.Demands.{LineGetMoves}

module _ (z : Size) (p : ℕ) (c : Block) (s : Spot) where
  -- the label is there to be read; or the place is NE and the turn is below P
  pub moves_by : {A : Type 0} (x y : A)
      → (if moves_on z p c s then x else y) ≡ (if s.place <ᵇ c.written then y else if s.place ≡ᵇ z.ne && s.turn <ᵇ p then x else y)
  unfolding moves_on
  moves_by x y =
      let a = s.place <ᵇ c.written in
      cases a (λ t. rw (T→true a t) refl) (λ t. rw (not→false a t) refl)

  pub by_moves : {A : Type 0} (P : A → Type 0) {x y : A} → (T (s.place <ᵇ c.written) → P y)
      → (T (not (s.place <ᵇ c.written)) → T (s.place ≡ᵇ z.ne && s.turn <ᵇ p) → P x)
      → (T (not (s.place <ᵇ c.written)) → T (not (s.place ≡ᵇ z.ne && s.turn <ᵇ p)) → P y) → P (if moves_on z p c s then x else y)
  by_moves P {x} {y} f g h =
      subst P (sym (moves_by x y))
      (by_test P (s.place <ᵇ c.written) f (λ b. by_test P (s.place ≡ᵇ z.ne && s.turn <ᵇ p) (g b) (h b)))

-- ---- K moves on by at most as many blocks as there are moves left

module _ (z : Size) where
  reach_turn : (n : ℕ) (tb : List Block) (p : ℕ) (s : Spot) → (s.turn ≤ (reach z n tb p s).turn) × ((reach z n tb p s).turn ≤ s.turn + n)
  unfolding reach
  reach_turn zero tb p s = (omega arith, omega arith)
  reach_turn (suc n) tb p s =
      by_test (λ (x : Spot). (s.turn ≤ x.turn) × (x.turn ≤ s.turn + suc n)) (moves_on z p (record_of z tb s.turn) s)
      (λ _. let r = reach_turn n tb p (taken_over z tb s) in (omega (arith, r.0), omega (arith, r.1)))
      (λ _. (omega arith, omega arith))

  read_turn_lem : (l : Line) (s : Spot) → (read_at z l s).line.head.k ≡ s.turn
  unfolding read_at
  read_turn_lem l s =
      by_test (λ (o : Outcome). o.line.head.k ≡ s.turn) (s.place <ᵇ (record_of z l.table s.turn).written) (λ _. refl) (λ _. refl)

pub line_get_moves : LineGetMoves
unfolding LineGetMoves step does get_step
line_get_moves l s e =
    let z = size_of l.head in
    let from : Spot = record { turn = l.head.k; place = l.head.reading } in
    by_verdict (λ (o : Outcome). (l.head.k ≤ o.line.head.k) × (o.line.head.k - l.head.k ≤ l.head.nb - 1)) (passes (check l))
    (λ _. let r = reach_turn z (l.head.nb - 1) l.table l.head.p from in
    rw (e, read_turn_lem z l (reach z (l.head.nb - 1) l.table l.head.p from)) (r.0, omega (arith, r.1)))
    (λ w _. (omega arith, omega arith))
