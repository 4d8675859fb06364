-- What a schedule's bytes mean: its header, with the numbers of the line, its steps, and whether the last of them is
-- cut short. And the other way: the bytes of a step, and of a schedule.
use Rattle.std.specs.Prelude.{Bool, not, ◌&&◌, List, [], ◌∷◌, ◌++◌, ℕ, zero, suc, ◌+◌, ◌-◌, ◌*◌, ◌/◌, ◌%◌, length, get_or, Option, Some, None, if◌then◌else◌}
use Rattle.book.specs.Choice.{◌<ᵇ◌, ◌≤ᵇ◌, ◌≡ᵇ◌}
use Rattle.book.specs.declared.Size.{Size}
use Rattle.book.specs.Steps.{Step}

-- the longest schedule
abbrev pub limit : ℕ
limit = 64808

-- how many bytes the header takes, and a step
abbrev pub header_bytes : ℕ
header_bytes = 8

abbrev pub step_bytes : ℕ
step_bytes = 9

-- how many steps the longest schedule has: 7,200
abbrev pub most_steps : ℕ
most_steps = (limit - header_bytes) / step_bytes

-- ---- read

-- the number in four bytes, high byte first
abbrev pub number_in : ℕ → ℕ → ℕ → ℕ → ℕ
number_in p q r s = ((p * 256 + q) * 256 + r) * 256 + s

module _ (bs : List ℕ) where
  abbrev pub byte_at : ℕ → ℕ
  byte_at i = get_or bs i 0

  abbrev pub is_long : Bool
  is_long = limit <ᵇ length bs

  -- the letters LBQ, then version 1 in two bytes, high byte first, then NB, NE and T
  unfoldable pub is_header : Bool
  is_header =
      header_bytes ≤ᵇ length bs && (byte_at 0 ≡ᵇ 76 && byte_at 1 ≡ᵇ 66 && byte_at 2 ≡ᵇ 81 && byte_at 3 ≡ᵇ 0 && byte_at 4 ≡ᵇ 1)

  abbrev pub size_in : Size
  size_in = record { nb = byte_at 5; ne = byte_at 6; t = byte_at 7 }

  -- the numbers, where the header is there
  unfoldable pub header : Option Size
  header = if is_header then Some size_in else None

  abbrev pub number_at : ℕ → ℕ
  number_at i = number_in (byte_at i) (byte_at (i + 1)) (byte_at (i + 2)) (byte_at (i + 3))

  -- code, A and B
  abbrev pub step_at : ℕ → Step
  step_at i = record { code = byte_at i; a = number_at (i + 1); b = number_at (i + 5) }

  -- n steps, the first at byte i
  unfoldable pub steps_from : ℕ → ℕ → List Step
  steps_from zero i = []
  steps_from (suc n) i = step_at i ∷ steps_from n (i + step_bytes)

  -- the whole steps, and whether bytes of one more follow them
  abbrev pub whole_steps : ℕ
  whole_steps = (length bs - header_bytes) / step_bytes

  unfoldable pub steps_of : List Step
  steps_of = steps_from whole_steps header_bytes

  abbrev pub is_cut : Bool
  is_cut = not ((length bs - header_bytes) % step_bytes ≡ᵇ 0)

-- ---- written

-- a number in four bytes
abbrev pub bytes_in : ℕ → List ℕ
bytes_in n = n / 256 / 256 / 256 ∷ n / 256 / 256 % 256 ∷ n / 256 % 256 ∷ n % 256 ∷ []

abbrev pub bytes_of : Step → List ℕ
bytes_of s = s.code ∷ (bytes_in s.a ++ bytes_in s.b)

abbrev pub header_of : Size → List ℕ
header_of z = 76 ∷ 66 ∷ 81 ∷ 0 ∷ 1 ∷ z.nb ∷ z.ne ∷ z.t ∷ []

-- the bytes of the steps, one behind the other
unfoldable pub bytes_of_all : List Step → List ℕ
bytes_of_all [] = []
bytes_of_all (s ∷ rest) = bytes_of s ++ bytes_of_all rest

abbrev pub schedule_of : Size → List Step → List ℕ
schedule_of z steps = header_of z ++ bytes_of_all steps
