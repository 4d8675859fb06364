-- What holds of the answers as a whole.
use Rattle.std.proofs.Common.{◌≡◌, ℕ, Bool, true, not, ◌&&◌, leb, List, [], ◌∷◌, ◌++◌, map, length, replicate, sym, refl, ◌∙◌}
use lib.Text.{eqt}
use Prim.Native.String.{String}
use Rattle.words.specs.Words.{Refusal, Answer, Refused, said, letters}
use Rattle.words.specs.Spelling.{answers, words, Spelling}
use Rattle.words.specs.Promises.{Numbered, Valued, Worded}

-- any two outcomes that a promise allows are equal
pub number_unique : (a : Answer) (r s : ℕ) → Numbered a r → Numbered a s → r ≡ s
number_unique a r s p q = p ∙ sym q

pub value_unique : (a : Answer) (r s : ℕ) → Valued a r → Valued a s → r ≡ s
value_unique a r s p q = p ∙ sym q

pub word_unique : (a : Answer) (r s : List ℕ) → Worded a r → Worded a s → r ≡ s
word_unique a r s p q = p ∙ sym q

-- each word is spelt as the paper spells it
pub spelling : Spelling
unfolding Spelling
spelling v = refl

-- an answer that is no refusal has number 0, and the refusals have 1 to 15
pub fifteen : (v : ℕ) → map (λ a. (said a).number) (answers v) ≡ replicate 7 0 ++ (1 ∷ 2 ∷ 3 ∷ 4 ∷ 5 ∷ 6 ∷ 7 ∷ 8 ∷ 9 ∷ 10 ∷ 11 ∷ 12 ∷ 13 ∷ 14 ∷ 15 ∷ [])
fifteen v = refl

-- every answer but DONE says the value that it carries
pub carried : (v : ℕ) → map (λ a. (said a).value) (answers v) ≡ replicate 6 v ++ (0 ∷ replicate 15 v)
carried v = refl

pub refused_value : (w : Refusal) (v : ℕ) → (said (Refused w v)).value ≡ v
refused_value w v = refl

abbrev pub every : {A : Type 0} → (A → Bool) → List A → Bool
every p [] = true
every p (x ∷ xs) = p x && every p xs

-- no two texts of the list are alike
abbrev pub apart : List String → Bool
apart [] = true
apart (w ∷ ws) = every (λ u. not (eqt w u)) ws && apart ws

-- the 22 words are apart
pub words_apart : (v : ℕ) → apart (words v) ≡ true
words_apart v = refl

-- and each fits the eight bytes
pub words_short : (v : ℕ) → every (λ w. leb (length (letters w)) 8) (words v) ≡ true
words_short v = refl
