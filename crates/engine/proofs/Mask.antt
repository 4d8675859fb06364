-- A mask of bits, the first of them lowest: its ones are their number, and its trailing zeros the lowest of them.
use Rattle.std.proofs.Common.{◌≡◌, ℕ, zero, suc, ◌+◌, ◌*◌, ◌/◌, ◌%◌, ◌^◌, ◌<◌, ◌≤◌, Bool, true, false, List, [], ◌∷◌, length, if◌then◌else◌, bit_or, sym, refl, ap, ◌∙◌, ap₂, add-zero, add-suc, suc-add, pow-suc, zero-add, add-one, arith}
use lib.Count.{ones, ones_step, count_trailing_zeros, under, trailing_of_zero}
use Rattle.std.proofs.lemmas.Nat.{shl_whole, or_comm, or_shifted}
use Rattle.book.specs.Total.{total}
use Rattle.line.specs.declared.Findings.{Findings}
use Rattle.line.specs.Survey.{bit, mask_of, lowest_from, views}
use Rattle.line.proofs.Survey.{bit_le}

low_bit : (x : Bool) (m : ℕ) → (bit x + 2 * m) % 2 ≡ bit x
low_bit x m = omega (arith, bit_le x)

high_bits : (x : Bool) (m : ℕ) → (bit x + 2 * m) / 2 ≡ m
high_bits x m = omega (arith, bit_le x)

mask_lt : (bs : List Bool) → mask_of bs < 2 ^ length bs
unfolding mask_of
mask_lt [] = omega arith
mask_lt (x ∷ bs) = omega (arith, bit_le x, mask_lt bs, pow-suc 2 (length bs))

mask_ones : (bs : List Bool) → ones (mask_of bs) ≡ total bit bs
unfolding mask_of total ones
mask_ones [] = refl
mask_ones (x ∷ bs) =
    ones_step (bit x + 2 * mask_of bs) ∙ ap₂ (λ (b m : ℕ). b + ones m) (low_bit x (mask_of bs)) (high_bits x (mask_of bs))
    ∙ ap (λ (n : ℕ). bit x + n) (mask_ones bs)

first_or : (x : Bool) (i n r : ℕ) → suc i + n ≡ r → i + under (bit x) n ≡ (if x then i else r)
first_or true i n r e = omega arith
first_or false i n r e = omega arith

-- of k digits, the lowest of them block i's
mask_lowest : (bs : List Bool) (k i : ℕ) → length bs ≤ k → i + k ≡ 64 → i + count_trailing_zeros k (mask_of bs) ≡ lowest_from i bs
unfolding mask_of lowest_from count_trailing_zeros
mask_lowest [] k i h e = ap (λ (n : ℕ). i + n) (trailing_of_zero k) ∙ e
mask_lowest (x ∷ bs) zero i h e = absurd (omega arith)
mask_lowest (x ∷ bs) (suc k) i h e =
    ap₂ (λ (b m : ℕ). i + under b (count_trailing_zeros k m)) (low_bit x (mask_of bs)) (high_bits x (mask_of bs))
    ∙ first_or x i (count_trailing_zeros k (mask_of bs)) (lowest_from (suc i) bs) (mask_lowest bs k (suc i) (omega arith) (omega arith))

-- what a survey says of its mask
abbrev pub told : ℕ → Findings
told m = record { mask = m; count = ones m; lowest = count_trailing_zeros 64 m }

pub told_views : (bs : List Bool) → length bs ≤ 64 → told (mask_of bs) ≡ views bs
unfolding views
told_views bs h =
    ap₂ (λ (c i : ℕ). record { mask = mask_of bs; count = c; lowest = i }) (mask_ones bs) (rw zero-add at (mask_lowest bs 64 0 h refl))

-- ---- the bits of n blocks from block i on

unfoldable pub bits_from : (ℕ → Bool) → ℕ → ℕ → List Bool
bits_from f i zero = []
bits_from f i (suc n) = f i ∷ bits_from f (suc i) n

pub bits_length : (f : ℕ → Bool) (i n : ℕ) → length (bits_from f i n) ≡ n
unfolding bits_from
bits_length f i zero = refl
bits_length f i (suc n) = ap suc (bits_length f (suc i) n)

module _ (f : ℕ → Bool) where
  -- one block more above
  mask_more : (n i : ℕ) → mask_of (bits_from f i (suc n)) ≡ bit (f (i + n)) * 2 ^ n + mask_of (bits_from f i n)
  unfolding bits_from mask_of
  mask_more zero i = rw (add-zero i) (omega arith)
  mask_more (suc n) i =
      let e : mask_of (bits_from f (suc i) (suc n)) ≡ bit (f (suc i + n)) * 2 ^ n + mask_of (bits_from f (suc i) n) = mask_more n (suc i) in
      rw (pow-suc, add-suc, ← suc-add) (omega (arith, e))

  -- the mask of the blocks below i
  abbrev pub mask_below : ℕ → ℕ
  mask_below i = mask_of (bits_from f 0 i)

  pub mask_none : 0 ≡ mask_below 0
  unfolding bits_from mask_of
  mask_none = refl

  mask_below_lt : (i : ℕ) → mask_below i < 2 ^ i
  mask_below_lt i = rw (bits_length f 0 i) at (mask_lt (bits_from f 0 i))

  -- block i's bit is put in above them
  pub mask_set : (i m b : ℕ) → i < 64 → m ≡ mask_below i → b ≡ bit (f i) → bit_or m ((b * 2 ^ i) % 2 ^ 64) ≡ mask_below (i + 1)
  mask_set i m b h e g =
      rw (
        e,
        g,
        shl_whole (bit (f i)) 1 i 64 (omega (arith, bit_le (f i))) (omega arith),
        or_comm (mask_below i) (bit (f i) * 2 ^ i),
        or_shifted (bit (f i)) i (mask_below i) (mask_below_lt i),
        add-one,
      )
      (rw zero-add at (sym (mask_more i 0)))
