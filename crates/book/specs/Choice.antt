-- The tests of numbers, as the definitions write them.
use Rattle.std.specs.Prelude.{Bool, ℕ, ltb, leb, eqb}

infix 45 ◌<ᵇ◌
infix 45 ◌≤ᵇ◌
infix 45 ◌≡ᵇ◌
abbrev pub ◌<ᵇ◌ : ℕ → ℕ → Bool
m <ᵇ n = ltb m n

abbrev pub ◌≤ᵇ◌ : ℕ → ℕ → Bool
m ≤ᵇ n = leb m n

abbrev pub ◌≡ᵇ◌ : ℕ → ℕ → Bool
m ≡ᵇ n = eqb m n
