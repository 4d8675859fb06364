-- The turns that are their blocks' current ones are the NB turns up to P; and what a change of one record leaves.
use Rattle.std.proofs.Common.{◌≡◌, ℕ, ◌+◌, ◌*◌, ◌/◌, ◌%◌, ◌<◌, ◌≤◌, eqb, ◌≢◌, List, length, set, sym, ap, ◌∙◌, mod-lt, mod-eq_of_lt, arith, eqb→eq, ltb→lt, lt→ltb, get_or-set_other, get_or-set_same}
use Rattle.std.proofs.Math.Arith.{digits_div, digits_mod, digits_lt}
use Rattle.book.specs.Sizes.{Size, block_of, current_turn}
use Rattle.book.proofs.Choice.{cases, eq→eqb, neq_test}
use Rattle.book.proofs.Turns.{current_low, current_self, block_apart}
use Rattle.line.specs.Line.{Block, unused, record_of, entry_of}

module _ (z : Size) where
  -- t is its block's current turn exactly if P - NB < t ≤ P
  pub record Window (p t : ℕ) : Type 0 where
    pub low : t ≤ p
    pub high : p < t + z.nb

  pub current→window : (p t : ℕ) → 0 < z.nb → current_turn z p (block_of z t) ≡ t → Window p t
  current→window p t pos e =
      let lo : t ≤ p = rw e at (current_low z p (block_of z t)) in
      record { low = lo; high = ltb→lt p (t + z.nb) (rw (current_self z p t pos lo) at (eq→eqb (current_turn z p (block_of z t)) t e)) }

  pub window→current : (p t : ℕ) → 0 < z.nb → Window p t → current_turn z p (block_of z t) ≡ t
  window→current p t pos w =
      eqb→eq (current_turn z p (block_of z t)) t (rw (current_self z p t pos w.low) (lt→ltb p (t + z.nb) w.high))

  -- ---- one record is replaced: the turn's own, and those of the other turns of the window
  module _ (tb : List Block) (t : ℕ) (c : Block) where
    pub record_same : 0 < z.nb → length tb ≡ z.nb → record_of z (set tb (block_of z t) c) t ≡ c
    unfolding record_of
    record_same pos h = get_or-set_same tb (block_of z t) c unused (omega (arith, mod-lt t pos))

    pub record_other : (u : ℕ) → block_of z u ≢ block_of z t → record_of z (set tb (block_of z t) c) u ≡ record_of z tb u
    unfolding record_of
    record_other u h = get_or-set_other tb (block_of z t) (block_of z u) c unused h

    pub record_apart : (p u : ℕ) → Window p t → Window p u → u ≢ t → record_of z (set tb (block_of z t) c) u ≡ record_of z tb u
    record_apart p u w v n = record_other u (block_apart z p u t v.low v.high w.low w.high n)

    pub record_later : (u : ℕ) → t < u → u < z.nb → record_of z (set tb (block_of z t) c) u ≡ record_of z tb u
    record_later u h k = record_other u (λ e. omega (arith, mod-eq_of_lt {n = u} {m = z.nb} k, mod-eq_of_lt {n = t} {m = z.nb} (omega arith)))

  -- ---- entries: block and place are found again, and stand within NB x NE
  pub entry_inj : (t p u q : ℕ) → p < z.ne → q < z.ne → entry_of z t p ≡ entry_of z u q → (block_of z t ≡ block_of z u) × (p ≡ q)
  unfolding entry_of
  entry_inj t p u q hp hq e =
      (sym (digits_div (block_of z t) hp) ∙ ap (λ (n : ℕ). n / z.ne) e ∙ digits_div (block_of z u) hq, sym (digits_mod (block_of z t) hp) ∙ ap (λ (n : ℕ). n % z.ne) e ∙ digits_mod (block_of z u) hq)

  pub entry_lt : (t p : ℕ) → 0 < z.nb → p < z.ne → entry_of z t p < z.nb * z.ne
  unfolding entry_of
  entry_lt t p pos h = digits_lt (mod-lt t pos) h

-- what holds of the new record of turn t, and of every other turn of the window with the record that it had
pub each_turn : (z : Size) (tb : List Block) (p t : ℕ) (c : Block) → 0 < z.nb → length tb ≡ z.nb → Window z p t
    → (Q : ℕ → Block → Type 0) → Q t c → ((u : ℕ) → Window z p u → u ≢ t → Q u (record_of z tb u))
    → (u : ℕ) → Window z p u → Q u (record_of z (set tb (block_of z t) c) u)
each_turn z tb p t c pos b w Q new old u v =
    cases (eqb u t)
    (λ s. rw (eqb→eq u t s, record_same z tb t c pos b) new)
    (λ s. let n = neq_test u t s in rw (record_apart z tb t c p u w v n) (old u v n))
