-- What is read behind a front is read of the rest alone, and what is read within it of the front alone.
use Rattle.std.proofs.Common.{◌≡◌, refl, ap₂, List, ◌∷◌, ◌++◌, ℕ, zero, suc, ◌+◌, ◌≤◌, ◌<◌, length, arith}
use Rattle.std.proofs.lemmas.List.{get_or-append-add, get_or_append_left}
use Rattle.book.specs.Steps.{Step}
use Rattle.schedule.specs.Bytes.{step_bytes, byte_at, number_at, step_at, steps_from}

module _ (front xs : List ℕ) where
  -- ---- behind it

  byte_behind : (i k : ℕ) → i ≡ length front + k → byte_at (front ++ xs) i ≡ byte_at xs k
  byte_behind i k e = rw e (get_or-append-add front xs k 0)

  number_behind : (i k : ℕ) → i ≡ length front + k → number_at (front ++ xs) i ≡ number_at xs k
  number_behind i k e =
      rw (byte_behind i k e, byte_behind (i + 1) (k + 1) (omega arith), byte_behind (i + 2) (k + 2) (omega arith), byte_behind (i + 3) (k + 3) (omega arith)) refl

  pub step_behind : (i k : ℕ) → i ≡ length front + k → step_at (front ++ xs) i ≡ step_at xs k
  step_behind i k e = rw (byte_behind i k e, number_behind (i + 1) (k + 1) (omega arith), number_behind (i + 5) (k + 5) (omega arith)) refl

  pub steps_behind : (n i k : ℕ) → i ≡ length front + k → steps_from (front ++ xs) n i ≡ steps_from xs n k
  unfolding steps_from
  steps_behind zero i k e = refl
  steps_behind (suc n) i k e = ap₂ (λ (s : Step) (l : List Step). s ∷ l) (step_behind i k e) (steps_behind n (i + step_bytes) (k + step_bytes) (omega arith))

  -- ---- within it

  byte_within : (i : ℕ) → i < length front → byte_at (front ++ xs) i ≡ byte_at front i
  byte_within i h = get_or_append_left front xs 0 i h

  number_within : (i : ℕ) → i + 4 ≤ length front → number_at (front ++ xs) i ≡ number_at front i
  number_within i h =
      rw (byte_within i (omega arith), byte_within (i + 1) (omega arith), byte_within (i + 2) (omega arith), byte_within (i + 3) (omega arith)) refl

  pub step_within : (i : ℕ) → i + step_bytes ≤ length front → step_at (front ++ xs) i ≡ step_at front i
  step_within i h = rw (byte_within i (omega arith), number_within (i + 1) (omega arith), number_within (i + 5) (omega arith)) refl
