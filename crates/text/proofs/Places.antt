-- The place of the first byte that passes a test, the length where there is none, as a search and a default say it.
use Rattle.std.proofs.Common.{◌≡◌, ℕ, ◌≤◌, List, Option, Some, None, Bool, cond, ltb, length, arith, lt-ltb, le-ltb}
use Rattle.std.specs.List.{position_or_len}
use Rattle.std.specs.Option.{unwrap_or}
use Rattle.std.proofs.lemmas.List.Sums.{prefix_len-le-length}
use Rattle.book.proofs.Choice.{by_order}

pub place : (p : ℕ → Bool) (l : List ℕ) (o : Option ℕ) (r : ℕ)
    → o ≡ cond (ltb (position_or_len p l) (length l)) (Some (position_or_len p l)) None → r ≡ unwrap_or o (length l) → r ≡ position_or_len p l
place p l o r e f =
    let h : position_or_len p l ≤ length l = prefix_len-le-length _ l in
    let n = position_or_len p l in
    by_order n (length l) (λ g. rw (f, e, lt-ltb n (length l) g)) (λ g. rw (f, e, le-ltb n (length l) (omega arith)) (omega arith)) (λ g. absurd (omega arith))
