-- A printed line, part by part: a line takes 25 bytes at most, and no word of an answer has more than eight letters.
use Rattle.std.proofs.Common.{◌≡◌, ℕ, ◌+◌, ◌/◌, ◌%◌, ◌^◌, ◌<◌, ◌≤◌, List, [], ◌∷◌, ◌++◌, length, arith, lit≤, length-append}
use Rattle.words.specs.declared.Refusal.{Refusal}
use Rattle.words.specs.declared.Refusal.TheVariants.{Unfit, Damaged, Badstep, Nodesk, Noblock, Stage, Owned, Nothing, Lost, Notlabel, Range, Worn, Full, Busy, Empty}
use Rattle.words.specs.declared.Answer.{Answer}
use Rattle.words.specs.declared.Answer.TheVariants.{Put, Got, Took, Whole, Seen, Claimed, Done, Refused}
use Rattle.words.specs.Words.{refusal, said, letters}
use Rattle.printing.specs.Text.{space, newline, decimal, line_text, numbers_below}
use Rattle.printing.specs.Writes.{letters_most, line_most}
use Rattle.printing.specs.Page.{Page, HasRoom, Wrote}
use Rattle.printing.proofs.Stores.{wrote_more, wrote_left, wrote_most}
use Rattle.printing.proofs.Decimals.{decimal_digit, decimal_more, decimal_one, decimal_longer, decimal_short}

-- ---- a number: its only digit, or its last one behind those of its tenth

pub one_digit : (n d : ℕ) (p q : Page) → n < 10 → Wrote (d ∷ []) p q → d ≡ 48 + n → Wrote (decimal n) p q
one_digit n d p q h w e = rw (decimal_digit n h, ← e) w

pub digit_behind : (n d : ℕ) (p a q : Page) → 10 ≤ n → Wrote (decimal (n / 10)) p a → Wrote (d ∷ []) a q → d ≡ 48 + n % 10 → Wrote (decimal n) p q
digit_behind n d p a q h w v e = rw (decimal_more n h, ← e) (wrote_more (decimal (n / 10)) (d ∷ []) p a q w v)

pub digit_room : (n : ℕ) (p : Page) → n < 10 → HasRoom (length (decimal n)) p → HasRoom 1 p
digit_room n p h room = let e = decimal_one n h in omega arith

pub tenth_room : (n : ℕ) (p : Page) → 10 ≤ n → HasRoom (length (decimal n)) p → HasRoom (length (decimal (n / 10))) p
tenth_room n p h room = let e = decimal_longer n h in omega arith

pub behind_tenth : (n : ℕ) (p q : Page) → 10 ≤ n → HasRoom (length (decimal n)) p → Wrote (decimal (n / 10)) p q → HasRoom 1 q
behind_tenth n p q h room w = let e = decimal_longer n h in wrote_left (length (decimal (n / 10))) 1 (decimal (n / 10)) p q (omega arith) (omega arith) w

-- ---- the room that is left behind each piece of a line: a number of four digits, a word of eight letters, a value of ten

pub number_room : (n : ℕ) (p : Page) → n < numbers_below → HasRoom line_most p → HasRoom (length (decimal n)) p
number_room n p h room = let short = decimal_short 3 n h in omega arith

pub behind_number : (n : ℕ) (p q : Page) → n < numbers_below → HasRoom line_most p → Wrote (decimal n) p q → HasRoom 21 q
behind_number n p q h room w = wrote_left 4 21 (decimal n) p q (decimal_short 3 n h) room w

pub first_space : (p q : Page) → HasRoom 21 p → Wrote (space ∷ []) p q → HasRoom 20 q
first_space p q room w = wrote_left 1 20 (space ∷ []) p q (omega arith) room w

pub word_room : (word : List ℕ) (p : Page) → length word ≤ letters_most → HasRoom 20 p → HasRoom (length word) p
word_room word p h room = omega arith

pub behind_word : (word : List ℕ) (p q : Page) → length word ≤ letters_most → HasRoom 20 p → Wrote word p q → HasRoom 12 q
behind_word word p q h room w = wrote_left 8 12 word p q h room w

pub second_space : (p q : Page) → HasRoom 12 p → Wrote (space ∷ []) p q → HasRoom 11 q
second_space p q room w = wrote_left 1 11 (space ∷ []) p q (omega arith) room w

pub value_short : (n : ℕ) → n < 2 ^ 32 → length (decimal n) ≤ 10
value_short n h = decimal_short 9 n (omega arith)

pub value_room : (n : ℕ) (p : Page) → n < 2 ^ 32 → HasRoom 11 p → HasRoom (length (decimal n)) p
value_room n p h room = let short = value_short n h in omega arith

pub behind_value : (n : ℕ) (p q : Page) → n < 2 ^ 32 → HasRoom 11 p → Wrote (decimal n) p q → HasRoom 1 q
behind_value n p q h room w = wrote_left 10 1 (decimal n) p q (value_short n h) room w

-- ---- the six pieces, one behind the other

module _ (number value : ℕ) (word : List ℕ) (p q : Page) where
  pub line_wrote : (a b c d e : Page)
      → Wrote (decimal number) p a → Wrote (space ∷ []) a b → Wrote word b c → Wrote (space ∷ []) c d → Wrote (decimal value) d e → Wrote (newline ∷ []) e q
      → Wrote (line_text number word value) p q
  unfolding line_text
  line_wrote a b c d e h i j k l m =
      wrote_more _ _ p a q h (wrote_more _ _ a b q i (wrote_more _ _ b c q j (wrote_more _ _ c d q k (wrote_more _ _ d e q l m))))

  pub line_short : number < numbers_below → length word ≤ letters_most → value < 2 ^ 32 → Wrote (line_text number word value) p q → q.len ≤ p.len + line_most
  unfolding line_text
  line_short h i j w =
      let a = decimal_short 3 number h in
      let b = value_short value j in
      let e = length-append (decimal number) (space ∷ (word ++ (space ∷ (decimal value ++ (newline ∷ []))))) in
      let f = length-append word (space ∷ (decimal value ++ (newline ∷ []))) in
      let g = length-append (decimal value) (newline ∷ []) in
      wrote_most line_most _ p q (omega arith) w

-- ---- the word of an answer has eight letters at most

refusal_short : (w : Refusal) → length (letters (refusal w).1) ≤ letters_most
refusal_short Unfit = lit≤ tt
refusal_short Damaged = lit≤ tt
refusal_short Badstep = lit≤ tt
refusal_short Nodesk = lit≤ tt
refusal_short Noblock = lit≤ tt
refusal_short Stage = lit≤ tt
refusal_short Owned = lit≤ tt
refusal_short Nothing = lit≤ tt
refusal_short Lost = lit≤ tt
refusal_short Notlabel = lit≤ tt
refusal_short Range = lit≤ tt
refusal_short Worn = lit≤ tt
refusal_short Full = lit≤ tt
refusal_short Busy = lit≤ tt
refusal_short Empty = lit≤ tt

pub answer_short : (a : Answer) → length (letters (said a).word) ≤ letters_most
answer_short (Put v) = lit≤ tt
answer_short (Got v) = lit≤ tt
answer_short (Took v) = lit≤ tt
answer_short (Whole v) = lit≤ tt
answer_short (Seen v) = lit≤ tt
answer_short (Claimed v) = lit≤ tt
answer_short Done = lit≤ tt
answer_short (Refused w v) = refusal_short w
