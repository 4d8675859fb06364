-- Any two outcomes that the promise of playing a schedule allows are equal; and what it says of the room.
use Rattle.std.proofs.Common.{◌≡◌, sym, ap, ◌∙◌, List, ℕ, ◌≤◌, arith, length, drop, length-append}
use Rattle.player.specs.Printed.{text}
use Rattle.player.specs.Promises.{Plays}

pub plays_unique : (bs before : List ℕ) (r s : ℕ) (after behind : List ℕ) → Plays bs before r after → Plays bs before s behind → (r ≡ s) × (after ≡ behind)
plays_unique bs before r s after behind p q = (p.count ∙ sym q.count, p.front ∙ sym q.front)

-- a text lies within its room
pub plays_within : (bs before : List ℕ) (r : ℕ) (after : List ℕ) → Plays bs before r after → r ≤ length after
plays_within bs before r after p = omega (arith, p.count, ap length p.front, length-append (text bs) (drop (length (text bs)) before))
