-- Every code that a byte can be, with any A and B: what it asks for.
use Rattle.std.specs.Prelude.{◌≡◌, List, [], ◌∷◌, ◌++◌, map, ℕ, replicate}
use Rattle.book.specs.Total.{up_from}
use Rattle.book.specs.Steps.{DeskStep, look, claim, fetch, finish, Deed, put, get, order, desk, unlisted, decode}

-- by desk 0, by desk 1, and so on to desk 15
abbrev pub by_each : DeskStep → List Deed
by_each s = map (λ d. desk d s) (up_from 16 0)

unfoldable pub Decoding : Type 0
Decoding =
    (a b : ℕ)
    → map (λ c. decode (record { code = c; a = a; b = b })) (up_from 256 0)
    ≡ (put a ∷ get ∷ order a b ∷ []) ++ (replicate 13 unlisted
    ++ (by_each claim ++ (by_each fetch ++ (by_each finish ++ (by_each (look a) ++ replicate 176 unlisted)))))
