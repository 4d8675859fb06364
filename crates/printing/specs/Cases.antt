-- Numbers and lines, and what is printed of them. proofs/Cases.antt computes them.
use Rattle.std.specs.Prelude.{◌≡◌, [], ◌∷◌, map, length}
use Rattle.words.specs.declared.Answer.TheVariants.{Got, Done, Refused}
use Rattle.words.specs.declared.Refusal.TheVariants.{Full, Notlabel}
use Rattle.words.specs.Words.{letters}
use Rattle.printing.specs.Text.{decimal, answer_text}
use Rattle.printing.specs.Writes.{line_most}

-- numbers in decimal
unfoldable pub DecimalCases : Type 0
DecimalCases =
    map decimal (0 ∷ 1 ∷ 9 ∷ 10 ∷ 19 ∷ 99 ∷ 100 ∷ 101 ∷ 1000 ∷ 7200 ∷ 10203 ∷ 999999 ∷ 4294967295 ∷ [])
    ≡ map letters ("0" ∷ "1" ∷ "9" ∷ "10" ∷ "19" ∷ "99" ∷ "100" ∷ "101" ∷ "1000" ∷ "7200" ∷ "10203" ∷ "999999" ∷ "4294967295" ∷ [])

-- a line, and the longest
unfoldable pub LineCases : Type 0
LineCases =
    (answer_text 1 (Refused Full 4) ∷ answer_text 12 (Got 5) ∷ answer_text 15 Done ∷ [] ≡ map letters ("1 FULL 4\n" ∷ "12 GOT 5\n" ∷ "15 DONE 0\n" ∷ []))
    × (length (answer_text 9999 (Refused Notlabel 4294967295)) ≡ line_most)
