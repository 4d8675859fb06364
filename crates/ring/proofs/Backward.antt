-- Round the NB blocks, counted back from the block of turn P: the block of a current turn, and the current turn of a block.
use Rattle.std.proofs.Common.{◌≡◌, ℕ, ◌+◌, ◌-◌, ◌*◌, ◌/◌, ◌%◌, ◌<◌, ◌≤◌, Bool, true, ◌&&◌, eqb, ltb, leb, sym, ap, ◌∙◌, mod-lt, div-add-mod', arith, ltb→lt, lt→ltb, leb→le, ne_eqb}
use Rattle.std.proofs.Math.Arith.{sub-sub_self}
use Rattle.std.proofs.Math.Dec.{nleb→lt}
use Rattle.std.proofs.Math.Nat.{mod-add-mod, add-mul-mod_self_right}
use Rattle.book.specs.Sizes.{Size, block_of, current_turn}
use Rattle.book.proofs.Choice.{cases, same_test, and_first, and_second, and_in, not→false}
use Rattle.book.proofs.Turns.{current_low, current_block, current_self}
use Rattle.line.specs.Tests.{is_recent}
use Rattle.ring.specs.declared.Ring.{Ring}

-- ---- among the last NB turns up to P, as a test said

module _ (nb p t : ℕ) (b : Bool) (e : b ≡ is_recent nb p t) where
  pub recent→le : b ≡ true → t ≤ p
  recent→le h = leb→le t p (and_first (leb t p) (ltb (p - t) nb) (rw (← e, h) tt))

  pub recent→near : b ≡ true → p - t < nb
  recent→near h = ltb→lt (p - t) nb (and_second (leb t p) (ltb (p - t) nb) (rw (← e, h) tt))

-- ---- some blocks back from P's

module _ (r : Ring) where
  -- the block that stands s back is that of the turn s before P
  pub back_from : (s : ℕ) → s ≤ r.p → s < r.nb → (r.last + r.nb - s) % r.nb ≡ (r.p - s) % r.nb
  back_from s h k =
      let e : r.last + r.nb - s + r.p / r.nb * r.nb ≡ (r.p - s) + 1 * r.nb = omega (arith, div-add-mod' r.p r.nb, r.stands) in
      sym (add-mul-mod_self_right (r.last + r.nb - s) (r.p / r.nb) r.nb) ∙ ap (λ (n : ℕ). n % r.nb) e ∙ add-mul-mod_self_right (r.p - s) 1 r.nb

  -- and so the block of a current turn
  pub block_at : (t j : ℕ) (b : Bool) → b ≡ is_recent r.nb r.p t → b ≡ true → j ≡ (r.last + r.nb - (r.p - t)) % r.nb
      → (j < r.nb) × (is_recent r.nb r.p t ≡ true → j ≡ t % r.nb)
  block_at t j b e h k =
      let low = recent→le r.nb r.p t b e h in
      let stands = k ∙ back_from (r.p - t) (omega arith) (recent→near r.nb r.p t b e h) ∙ ap (λ (n : ℕ). n % r.nb) (sub-sub_self low) in
      (rw stands (mod-lt t r.some), λ w. stands)

-- the current turn of a used block stands there
pub turn_block : (nb p i t : ℕ) → i < nb → t ≡ p - (p - i) % nb → leb i p ≡ true → t % nb ≡ i
unfolding current_turn
turn_block nb p i t h e u = ap (λ (n : ℕ). n % nb) e ∙ current_block (record { nb = nb; ne = 0; t = 0 }) p i h (leb→le i p (rw u tt))

-- the block after that of turn u is that of the next turn
pub next_block : (nb u i j : ℕ) → i ≡ u % nb → j ≡ (i + 1) % nb → j ≡ (u + 1) % nb
next_block nb u i j e f = f ∙ ap (λ (n : ℕ). (n + 1) % nb) e ∙ mod-add-mod u nb 1

-- a turn is its block's current one exactly if it is recent
pub current_recent : (z : Size) (p u : ℕ) → 0 < z.nb → eqb (current_turn z p (block_of z u)) u ≡ is_recent z.nb p u
current_recent z p u pos =
    cases (leb u p)
    (λ s.
    let k = leb→le u p s in
    current_self z p u pos k
    ∙ same_test (ltb p (u + z.nb)) (is_recent z.nb p u)
    (λ e. let q = ltb→lt p (u + z.nb) e in and_in (leb u p) (ltb (p - u) z.nb) s (lt→ltb (p - u) z.nb (omega arith)))
    (λ e. let q = ltb→lt (p - u) z.nb (and_second (leb u p) (ltb (p - u) z.nb) e) in lt→ltb p (u + z.nb) (omega arith)))
    (λ s.
    let k = nleb→lt u p s in
    ne_eqb (current_turn z p (block_of z u)) u (λ e. omega (arith, current_low z p (block_of z u)))
    ∙ sym (ap (λ (b : Bool). b && ltb (p - u) z.nb) (not→false (leb u p) s)))
