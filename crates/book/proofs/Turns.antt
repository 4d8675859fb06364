-- Turns and blocks: arithmetic of t % NB, and of the rows t * NE + place.
use Rattle.std.proofs.Common.{◌≡◌, ℕ, zero, suc, ◌+◌, ◌-◌, ◌*◌, ◌/◌, ◌%◌, ◌<◌, ◌≤◌, eqb, ltb, ◌≢◌, sym, ap, ◌∙◌, zero-le, le_trans, mul-le-mul_right, mod-lt, mod-eq_of_lt, div-lt_iff_lt-mul, div-add-mod', le-div_iff_mul-le, div-mul-le_self, arith, eqb→eq, ltb→lt, lt→ltb, leb→le, nltb→le}
use Rattle.std.proofs.Math.Arith.{digits_div, digits_mod}
use Rattle.std.proofs.Math.Dec.{nleb→lt}
use Rattle.std.proofs.Math.Nat.{div-zero, lt-div-mul-add, add-mul-mod_self_right}
use Rattle.book.specs.Sizes.{Size, block_of, current_turn}
use Rattle.book.specs.Book.{row_of}
use Rattle.book.specs.Demands.{CurrentTurn}
use Rattle.book.proofs.Choice.{cases, same_test, eq→eqb}

pub div_mono : {a b : ℕ} (k : ℕ) → a ≤ b → a / k ≤ b / k
div_mono {a} {b} zero h = rw (div-zero a) zero-le
div_mono {a} {b} (suc k) h = (le-div_iff_mul-le {k = suc k} {x = a / suc k} {y = b} (omega arith)).1 (le_trans (div-mul-le_self a (suc k)) h)

pub div_next : (k n : ℕ) → (n + 1) / k ≤ n / k + 1
div_next zero n = rw (div-zero (n + 1)) zero-le
div_next (suc k) n =
    let low = (div-lt_iff_lt-mul {k = suc k} {x = n + 1} {y = n / suc k + 1 + 1} (omega arith)).1 (omega (arith, lt-div-mul-add {a = n} {b = suc k} (omega arith))) in
    omega arith

-- two turns in one block are at least NB apart
pub mod_gap : (n a b : ℕ) → a < b → a % n ≡ b % n → a + n ≤ b
mod_gap n a b h e =
    cases (ltb (a / n) (b / n))
    (λ t. omega (arith, mul-le-mul_right n (ltb→lt (a / n) (b / n) t), div-add-mod' a n, div-add-mod' b n))
    (λ t. absurd (omega (arith, mul-le-mul_right n (nltb→le (a / n) (b / n) t), div-add-mod' a n, div-add-mod' b n)))

module _ (z : Size) where
  -- turns of one window of NB stand in different blocks
  pub block_apart : (p t u : ℕ) → t ≤ p → p < t + z.nb → u ≤ p → p < u + z.nb → t ≢ u → block_of z t ≢ block_of z u
  block_apart p t u t1 t2 u1 u2 h e =
      cases (ltb t u)
      (λ l. let g = mod_gap z.nb t u (ltb→lt t u l) e in omega arith)
      (λ l. let k = nltb→le t u l in let g = mod_gap z.nb u t (omega arith) (sym e) in omega arith)

  -- ---- the current turn of a used block: it stands there, is at most P, and no later one up to P stands there

  pub current_low : (p i : ℕ) → current_turn z p i ≤ p
  unfolding current_turn
  current_low p i = omega arith

  pub current_high : (p i : ℕ) → 0 < z.nb → i ≤ p → p < current_turn z p i + z.nb
  unfolding current_turn
  current_high p i pos h = omega (arith, mod-lt (p - i) pos)

  pub current_block : (p i : ℕ) → i < z.nb → i ≤ p → block_of z (current_turn z p i) ≡ i
  unfolding current_turn
  current_block p i h k =
      let e : p - (p - i) % z.nb ≡ i + (p - i) / z.nb * z.nb = omega (arith, div-add-mod' (p - i) z.nb) in
      rw e (add-mul-mod_self_right i ((p - i) / z.nb) z.nb ∙ mod-eq_of_lt h)

  pub current_largest : (p i t : ℕ) → i < z.nb → i ≤ p → t ≤ p → block_of z t ≡ i → t ≤ current_turn z p i
  current_largest p i t h k l e =
      cases (ltb (current_turn z p i) t)
      (λ s. absurd (let g = mod_gap z.nb (current_turn z p i) t (ltb→lt (current_turn z p i) t s) (current_block p i h k ∙ sym e) in omega (arith, current_high p i (omega arith) k)))
      (λ s. nltb→le (current_turn z p i) t s)

  -- a turn up to P is its block's current one exactly within NB of P
  back_mod : (p t : ℕ) → t ≤ p → (p - t % z.nb) % z.nb ≡ (p - t) % z.nb
  back_mod p t h =
      let e : p - t % z.nb ≡ (p - t) + t / z.nb * z.nb = omega (arith, div-add-mod' t z.nb) in
      rw e (add-mul-mod_self_right (p - t) (t / z.nb) z.nb)

  pub current_self : (p t : ℕ) → 0 < z.nb → t ≤ p → eqb (current_turn z p (block_of z t)) t ≡ ltb p (t + z.nb)
  unfolding current_turn
  current_self p t pos h =
      rw (back_mod p t h) (same_test (eqb (p - (p - t) % z.nb) t) (ltb p (t + z.nb))
      (λ e. let q = eqb→eq (p - (p - t) % z.nb) t e in lt→ltb p (t + z.nb) (omega (arith, mod-lt (p - t) pos)))
      (λ l. let q = ltb→lt p (t + z.nb) l in eq→eqb (p - (p - t) % z.nb) t (omega (arith, mod-eq_of_lt {n = p - t} {m = z.nb} (omega arith)))))

  -- ---- turn and place are found again from the row
  pub row_inj : (t p u q : ℕ) → p < z.ne → q < z.ne → row_of z t p ≡ row_of z u q → (t ≡ u) × (p ≡ q)
  row_inj t p u q hp hq e =
      (sym (digits_div t hp) ∙ ap (λ (n : ℕ). n / z.ne) e ∙ digits_div u hq, sym (digits_mod t hp) ∙ ap (λ (n : ℕ). n % z.ne) e ∙ digits_mod u hq)

pub current_turn_lem : CurrentTurn
unfolding CurrentTurn
current_turn_lem z p i h = (
  λ u. let k = leb→le i p u in record { stands = current_block z p i h k; low = current_low z p i; largest = λ t l e. current_largest z p i t h k l e },
  λ n t l e. let k = nleb→lt i p n in omega (arith, mod-eq_of_lt {n = t} {m = z.nb} (omega arith)),
)
