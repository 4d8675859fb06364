-- A struct's field that is an array of structs. What is known of such a field is said of its elements' tuples; here it
-- is said of the elements.
use mathlib.Core.Path.{sym, ◌∙◌}
use Prim.Native.Nat.{ℕ}
use mathlib.Core.List.{List, [], ◌∷◌, map}
use lib.ListN.{length-map}
use mir.Val.{Val}
use denote.Shadow.{shadow}
use denote.Array.{each, in_array, Array}
use denote.Laws.{Is}
use denote.Struct.Declared.{Declared, row, field}

module _ (T : Declared) where
  each_of : (xs : List T.D) (us : List Val) → shadow (each (field T).row.Denot (field T).row.own_val (map T.to xs) us)
      → shadow (each T.D (row T).own_val xs us)
  each_of [] [] s = s
  each_of [] (u ∷ us) s = s
  each_of (x ∷ xs) [] s = s
  each_of (x ∷ xs) (u ∷ us) s = (s.0, each_of xs us s.1)

  -- the relation of `[T; n]`, from what `LL.owed` gives of the field
  pub array_of : (n : ℕ) (xs : List T.D) (vs : List Val) → shadow (in_array (field T).row.Denot (field T).row.own_val n (map T.to xs) vs)
      → Is (Array (row T) n) xs vs
  array_of n xs vs p = (p.0, ((p.1.0.0, sym (length-map xs T.to) ∙ p.1.0.1), each_of xs p.0 p.1.1))
