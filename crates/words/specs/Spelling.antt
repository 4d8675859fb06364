-- Every printed word of an answer, spelt as the paper spells it: the good answers, then the refusals in the order of the paper's
-- table. To be held beside the paper. proofs/Laws.antt computes it.
use Rattle.std.specs.Prelude.{◌≡◌, List, [], ◌∷◌, map, ℕ}
use Prim.Native.String.{String}
use Rattle.words.specs.Words.{Refusal, Unfit, Damaged, Badstep, Nodesk, Noblock, Stage, Owned, Nothing, Lost, Notlabel, Range, Worn, Full, Busy, Empty}
use Rattle.words.specs.Words.{Answer, Put, Got, Took, Whole, Seen, Claimed, Done, Refused, said}

-- the refusals in the order of the paper's table, and all answers that carry v
abbrev pub refusals : List Refusal
refusals = Unfit ∷ Damaged ∷ Badstep ∷ Nodesk ∷ Noblock ∷ Stage ∷ Owned ∷ Nothing ∷ Lost ∷ Notlabel ∷ Range ∷ Worn ∷ Full ∷ Busy ∷ Empty ∷ []

abbrev pub answers : ℕ → List Answer
answers v = Put v ∷ Got v ∷ Took v ∷ Whole v ∷ Seen v ∷ Claimed v ∷ Done ∷ map (λ w. Refused w v) refusals

abbrev pub words : ℕ → List String
words v = map (λ a. (said a).word) (answers v)

unfoldable pub Spelling : Type 0
Spelling =
    (v : ℕ) → words v
    ≡ ("PUT" ∷ "GOT" ∷ "TOOK" ∷ "WHOLE" ∷ "SEEN" ∷ "CLAIMED" ∷ "DONE"
    ∷ "UNFIT" ∷ "DAMAGED" ∷ "BADSTEP" ∷ "NODESK" ∷ "NOBLOCK" ∷ "STAGE" ∷ "OWNED" ∷ "NOTHING" ∷ "LOST"
    ∷ "NOTLABEL" ∷ "RANGE" ∷ "WORN" ∷ "FULL" ∷ "BUSY" ∷ "EMPTY" ∷ [])
