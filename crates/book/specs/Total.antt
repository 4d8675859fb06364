-- Sums and searches over a list, and a list of numbers.
use Rattle.std.specs.Prelude.{Bool, List, [], ◌∷◌, ℕ, zero, suc, ◌+◌}
use Rattle.std.specs.List.{list_any, list_all}

-- n numbers, from a on
abbrev pub up_from : ℕ → ℕ → List ℕ
up_from zero a = []
up_from (suc n) a = a ∷ up_from n (suc a)

module _ {A : Type 0} where
  unfoldable pub total : (A → ℕ) → List A → ℕ
  total f [] = 0
  total f (x ∷ xs) = f x + total f xs

  unfoldable pub any : (A → Bool) → List A → Bool
  any = list_any

  unfoldable pub all : (A → Bool) → List A → Bool
  all = list_all
