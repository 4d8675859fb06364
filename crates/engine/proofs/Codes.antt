-- What a code asks for, range by range.
use Rattle.std.proofs.Math.Bool.{and-false}
use Rattle.std.proofs.Common.{◌≡◌, ℕ, ◌-◌, ◌<◌, ◌≤◌, true, false, leb, if◌then◌else◌, refl, arith}
use borrow.Author.Tests.{le-leb, lt-leb, ne_eqb}
use Rattle.book.specs.Sizes.{within}
use Rattle.book.specs.declared.DeskStep.TheVariants.{Look as look, Claim as claim, Fetch as fetch, Finish as finish}
use Rattle.book.specs.declared.Deed.TheVariants.{Put as put, Get as get, Order as order, Desk as desk, Unlisted as unlisted}
use Rattle.book.specs.Steps.{Step, decode}

inside : (low high n : ℕ) → low ≤ n → n ≤ high → within low high n ≡ true
inside low high n a b = rw (le-leb low n a) (le-leb n high b)

above : (low high n : ℕ) → high < n → within low high n ≡ false
above low high n a = rw (lt-leb n high a) (and-false (leb low n))

below : (low high n : ℕ) → n < low → within low high n ≡ false
below low high n a = rw (lt-leb low n a) refl

module _ (a b n : ℕ) where
  abbrev s : Step
  s = record { code = n; a = a; b = b }

  pub put_at_lem : n ≡ 0 → put a ≡ decode s
  unfolding decode
  put_at_lem e = rw e

  pub get_at : n ≡ 1 → get ≡ decode s
  unfolding decode
  get_at e = rw e

  pub order_at : n ≡ 2 → order a b ≡ decode s
  unfolding decode
  order_at e = rw e

  -- past the single values
  past : 3 ≤ n → decode s ≡ (if within 16 31 n then desk (n - 16) claim else if within 32 47 n then desk (n - 32) fetch else if within 48 63 n then desk (n - 48) finish else if within 64 79 n then desk (n - 64) (look a) else unlisted)
  unfolding decode
  past h = rw (ne_eqb n 0 (λ e. omega arith), ne_eqb n 1 (λ e. omega arith), ne_eqb n 2 (λ e. omega arith))

  pub claim_at : 16 ≤ n → n < 32 → desk (n - 16) claim ≡ decode s
  claim_at h k = rw (past (omega arith), inside 16 31 n h (omega arith))

  pub fetch_at : 32 ≤ n → n < 48 → desk (n - 32) fetch ≡ decode s
  fetch_at h k = rw (past (omega arith), above 16 31 n (omega arith), inside 32 47 n h (omega arith))

  pub finish_at : 48 ≤ n → n < 64 → desk (n - 48) finish ≡ decode s
  finish_at h k = rw (past (omega arith), above 16 31 n (omega arith), above 32 47 n (omega arith), inside 48 63 n h (omega arith))

  pub look_at : 64 ≤ n → n < 80 → desk (n - 64) (look a) ≡ decode s
  look_at h k = rw (past (omega arith), above 16 31 n (omega arith), above 32 47 n (omega arith), above 48 63 n (omega arith), inside 64 79 n h (omega arith))

  pub high_at : 80 ≤ n → unlisted ≡ decode s
  high_at h = rw (past (omega arith), above 16 31 n (omega arith), above 32 47 n (omega arith), above 48 63 n (omega arith), above 64 79 n (omega arith))

  pub low_at : (n ≡ 0 → ⊥) → (n ≡ 1 → ⊥) → (n ≡ 2 → ⊥) → n < 16 → unlisted ≡ decode s
  low_at x y z h = rw (past (omega arith), below 16 31 n h, below 32 47 n (omega arith), below 48 63 n (omega arith), below 64 79 n (omega arith))
