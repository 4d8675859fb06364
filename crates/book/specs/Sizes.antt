-- The numbers of a line, their limits, and where a turn stands.
use Rattle.std.specs.Prelude.{Bool, ◌&&◌, ℕ, ◌-◌, ◌/◌, ◌%◌}
use Rattle.book.specs.Choice.{◌≤ᵇ◌}
use Rattle.book.specs.declared.Size as Declared

-- NB blocks, NE entries a block, T desks
abbrev pub Size : Type 0
Size = Declared.Size

abbrev pub sized : ℕ → ℕ → ℕ → Size
sized nb ne t = record { nb = nb; ne = ne; t = t }

abbrev pub within : ℕ → ℕ → ℕ → Bool
within low high n = low ≤ᵇ n && n ≤ᵇ high

unfoldable pub fits : Size → Bool
fits z = within 2 64 z.nb && within 1 64 z.ne && within 1 16 z.t

abbrev pub highest_label : ℕ
highest_label = 999999

unfoldable pub is_label : ℕ → Bool
is_label a = a ≤ᵇ highest_label

-- an order runs from first to last, both included
unfoldable pub is_order : ℕ → ℕ → Bool
is_order first last = first ≤ᵇ last && is_label last

module _ (z : Size) where
  -- turn t stands in block t mod NB with round t div NB
  abbrev pub block_of : ℕ → ℕ
  block_of t = t % z.nb

  abbrev pub round_of : ℕ → ℕ
  round_of t = t / z.nb

  -- The current turn of a block is the largest turn up to P that stands in it. The first turn that stands in
  -- block i is turn i, so a block above P has none, and is unused.
  abbrev pub is_used : ℕ → ℕ → Bool
  is_used p i = i ≤ᵇ p

  unfoldable pub current_turn : ℕ → ℕ → ℕ
  current_turn p i = p - (p - i) % z.nb

  -- a block is owned if its current turn is at most K
  unfoldable pub is_owned : ℕ → ℕ → ℕ → Bool
  is_owned p k i = is_used p i && current_turn p i ≤ᵇ k
