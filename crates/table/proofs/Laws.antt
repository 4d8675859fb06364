-- Laws of records laid over others: one turn of a loop that lays them, its end, and what comes of a table that is
-- loaded and stored again.
use Rattle.std.proofs.Common.{◌≡◌, ℕ, suc, ◌+◌, ◌<◌, ◌≤◌, min, List, [], ◌∷◌, ◌++◌, length, get_or, set, drop, take, replicate, refl, sym, ap, ◌∙◌, inl, inr, arith, length-set, add-one, not-suc-le-zero, le_of_suc-le-suc, drop_of_length-le, drop-cons}
use Rattle.std.proofs.Math.Seq.{set_out}
use Rattle.std.proofs.lemmas.Bool.{cases_lt}
use Rattle.std.proofs.lemmas.List.{set-append_left}
use Rattle.line.specs.declared.Block.{Block}
use Rattle.line.specs.Line.{unused}
use Rattle.table.specs.Laid.{laid, loaded, stored}

-- past the end nothing is laid
laid_past : (xs : List Block) (i : ℕ) (t : List Block) → length t ≤ i → laid xs i t ≡ t
laid_past [] i t h = refl
laid_past (x ∷ xs) i t h = ap (λ (l : List Block). laid xs (suc i) l) (set_out t i x h) ∙ laid_past xs (suc i) t (omega (arith, h))

-- one turn: the record at i is laid, and those after it are left
pub laid_next : (xs : List Block) (i : ℕ) (t : List Block) → i < length xs
    → laid (drop (i + 1) xs) (i + 1) (set t i (get_or xs i unused)) ≡ laid (drop i xs) i t
laid_next xs i t h =
    ap (λ (k : ℕ). laid (drop k xs) k (set t i (get_or xs i unused))) (add-one i) ∙ ap (λ (l : List Block). laid l i t) (sym (drop-cons xs i unused h))

-- the same turn in the first records of a table, with the others behind them
pub laid_next_before : (xs t blank : List Block) (i : ℕ) → i < length xs → i < length t
    → let more = set t i (get_or xs i unused) in
    laid (drop (i + 1) xs) (i + 1) (more ++ drop (length more) blank) ≡ laid (drop i xs) i (t ++ drop (length t) blank)
laid_next_before xs t blank i h k =
    rw (length-set, ← (set-append_left t (drop (length t) blank) i (get_or xs i unused) k)) (laid_next xs i (t ++ drop (length t) blank) h)

-- nothing is left to lay once all records are laid, or the table is full
pub laid_done : (xs : List Block) (n : ℕ) (t : List Block) → min (length xs) (length t) ≤ n → laid (drop n xs) n t ≡ t
laid_done xs n t h =
    elim (cases_lt n (length xs)) [
      | inl more ↦ laid_past (drop n xs) n t (omega (arith, h, more))
      | inr all ↦ ap (λ (l : List Block). laid l n t) (drop_of_length-le xs {i = n} all)
    ]

-- ---- loaded and stored again
laid_under : (xs : List Block) (i : ℕ) (y : Block) (t : List Block) → laid xs (suc i) (y ∷ t) ≡ y ∷ laid xs i t
laid_under [] i y t = refl
laid_under (x ∷ xs) i y t = laid_under xs (suc i) y (set t i x)

-- the first record is laid over the first, and the others over the others
laid_cons : (x : Block) (xs : List Block) (y : Block) (t : List Block) → laid (x ∷ xs) 0 (y ∷ t) ≡ x ∷ laid xs 0 t
laid_cons x xs y t = laid_under xs 0 x t

over_back : (ys t : List Block) → laid (laid ys 0 t) 0 ys ≡ ys
over_back [] t = laid_past t 0 [] (omega arith)
over_back (y ∷ ys) [] = ap (λ (l : List Block). laid l 0 (y ∷ ys)) (laid_past (y ∷ ys) 0 [] (omega arith))
over_back (y ∷ ys) (x ∷ t) =
    ap (λ (l : List Block). laid l 0 (y ∷ ys)) (laid_cons y ys x t) ∙ laid_cons y (laid ys 0 t) y ys ∙ ap (λ (l : List Block). y ∷ l) (over_back ys t)

-- what was loaded and not changed is stored back as it was, at any length
pub stored_loaded : (ys : List Block) → stored ys (loaded ys) ≡ ys
stored_loaded ys = over_back ys (replicate 64 unused)

-- a table that is no shorter than what is lent takes its place
pub stored_take : (ys t : List Block) → length ys ≤ length t → stored ys t ≡ take (length ys) t
stored_take [] t h = laid_past t 0 [] (omega arith)
stored_take (y ∷ ys) [] h = absurd (not-suc-le-zero h)
stored_take (y ∷ ys) (x ∷ t) h = laid_cons x t y ys ∙ ap (λ (l : List Block). x ∷ l) (stored_take ys t (le_of_suc-le-suc h))
