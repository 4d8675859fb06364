-- What is proved of a number's digits: they are the number in decimal, and nothing else is. proofs/Digits.antt has the
-- proofs, under the same names in small letters.
use Rattle.std.specs.Prelude.{◌≡◌, Bool, List, [], ◌∷◌, ℕ, ◌+◌, ◌-◌, ◌*◌, T}
use Rattle.book.specs.Total.{all}
use Rattle.book.specs.Sizes.{within}
use Rattle.printing.specs.Text.{decimal}

-- the number that bytes say, read from the left behind n
abbrev pub read_from : ℕ → List ℕ → ℕ
read_from n [] = n
read_from n (b ∷ bs) = read_from (n * 10 + (b - 48)) bs

abbrev pub is_digit : ℕ → Bool
is_digit b = within 48 57 b

-- the digits of n, with no zero in front unless it is the only digit
pub record Decimal (n : ℕ) (bs : List ℕ) : Type 0 where
  pub digits : T (all is_digit bs)
  pub reads : read_from 0 bs ≡ n
  pub leading : (rest : List ℕ) → bs ≡ 48 ∷ rest → rest ≡ []
  pub some : bs ≡ [] → ⊥

unfoldable pub DecimalDigits : Type 0
DecimalDigits = (n : ℕ) → Decimal n (decimal n)

unfoldable pub DecimalOnly : Type 0
DecimalOnly = (n : ℕ) (bs : List ℕ) → Decimal n bs → bs ≡ decimal n
