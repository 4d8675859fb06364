-- The numbers that cross are 32 bits wide. The portal takes a code of 8 bits and sizes of 16: a larger number becomes
-- the largest of that width.
use Rattle.std.specs.Prelude.{ℕ, if◌then◌else◌}
use Rattle.book.specs.Choice.{◌≤ᵇ◌}

unfoldable pub at_most : ℕ → ℕ → ℕ
at_most high n = if n ≤ᵇ high then n else high

-- no code, and a size that does not fit
abbrev pub highest_code : ℕ
highest_code = 255

abbrev pub highest_size : ℕ
highest_size = 65535

abbrev pub narrow_code : ℕ → ℕ
narrow_code n = at_most highest_code n

abbrev pub narrow_size : ℕ → ℕ
narrow_size n = at_most highest_size n
