-- What each answer says: the paper's number, the value and the printed word, one row for each case.
-- An answer that is no refusal has number 0. A refusal says the value that it carries: 0, except an order's count.
use Rattle.std.specs.Prelude.{List, ℕ, codes}
use Prim.Native.String.{String}
pub use Rattle.words.specs.declared.Refusal.{Refusal}
pub use Rattle.words.specs.declared.Refusal.TheVariants.{Unfit, Damaged, Badstep, Nodesk, Noblock, Stage, Owned, Nothing, Lost, Notlabel, Range, Worn, Full, Busy, Empty}
pub use Rattle.words.specs.declared.Answer.{Answer}
pub use Rattle.words.specs.declared.Answer.TheVariants.{Put, Got, Took, Whole, Seen, Claimed, Done, Refused}

pub record Said : Type 0 where
  pub number : ℕ
  pub value : ℕ
  pub word : String

abbrev row : ℕ → ℕ → String → Said
row n v w = record { number = n; value = v; word = w }

-- the paper's table of refusals: number and word
abbrev pub refusal : Refusal → ℕ × String
refusal Unfit = (1, "UNFIT")
refusal Damaged = (2, "DAMAGED")
refusal Badstep = (3, "BADSTEP")
refusal Nodesk = (4, "NODESK")
refusal Noblock = (5, "NOBLOCK")
refusal Stage = (6, "STAGE")
refusal Owned = (7, "OWNED")
refusal Nothing = (8, "NOTHING")
refusal Lost = (9, "LOST")
refusal Notlabel = (10, "NOTLABEL")
refusal Range = (11, "RANGE")
refusal Worn = (12, "WORN")
refusal Full = (13, "FULL")
refusal Busy = (14, "BUSY")
refusal Empty = (15, "EMPTY")

abbrev pub said : Answer → Said
said (Put label) = row 0 label "PUT"
said (Got label) = row 0 label "GOT"
said (Took label) = row 0 label "TOOK"
said (Whole count) = row 0 count "WHOLE"
said (Seen place) = row 0 place "SEEN"
said (Claimed place) = row 0 place "CLAIMED"
said Done = row 0 0 "DONE"
said (Refused w v) = row (refusal w).0 v (refusal w).1

-- a word's letters as bytes
abbrev pub letters : String → List ℕ
letters = codes
