-- Who holds: read off a desk's numbers, and the turns held in, made once for all blocks.
use Rattle.std.specs.Prelude.{Bool, ◌||◌, ℕ, if◌then◌else◌}
use Rattle.book.specs.Choice.{◌≡ᵇ◌}
use Rattle.line.specs.declared.Desk.{Desk as LentDesk}

-- claimed or fetched
abbrev pub is_holding : LentDesk → Bool
is_holding x = x.stage ≡ᵇ 2 || x.stage ≡ᵇ 3

-- The turn in which a desk holds. No turn is as large as the number that stands for none: rule 1 keeps turns below
-- 65,536 × 64.
abbrev pub no_turn : ℕ
no_turn = 4294967295

abbrev pub held_turn : LentDesk → ℕ
held_turn x = if is_holding x then x.turn else no_turn
