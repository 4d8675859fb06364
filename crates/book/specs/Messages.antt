-- Steps as they are sent: a message from a press, by its code.
use Rattle.std.specs.Prelude.{ℕ, ◌+◌}
use Rattle.book.specs.Steps.{Step}

abbrev pub raw : ℕ → ℕ → ℕ → Step
raw c a b = record { code = c; a = a; b = b }

abbrev pub put : ℕ → Step
put a = raw 0 a 0

abbrev pub get : Step
get = raw 1 0 0

abbrev pub order : ℕ → ℕ → Step
order a e = raw 2 a e

abbrev pub claim : ℕ → Step
claim d = raw (16 + d) 0 0

abbrev pub fetch : ℕ → Step
fetch d = raw (32 + d) 0 0

abbrev pub finish : ℕ → Step
finish d = raw (48 + d) 0 0

-- look by desk d at block i
abbrev pub look : ℕ → ℕ → Step
look d i = raw (64 + d) i 0

-- the largest number that a message can carry
abbrev pub most : ℕ
most = 4294967295
