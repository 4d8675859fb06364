-- The bytes of a line: how many there are, and which parts they have.
use Rattle.std.proofs.Common.{◌≡◌, refl, sym, ap, subst, ◌∙◌, List, [], ◌∷◌, ◌++◌, append-nil, append_assoc, take, drop, ℕ, zero, suc, ◌+◌, ◌*◌, ◌≤◌, length, length-append, arith, get_or, length-take-le, ◌<◌}
use Rattle.std.proofs.lemmas.List.{take_more}
use Rattle.std.proofs.Math.Seq.{take-length}
use Rattle.std.proofs.lemmas.List.{length-map}
use Rattle.std.specs.Int.{to_be_bytes, w64}
use Rattle.std.specs.Option.{unwrap_or}
use Rattle.printing.specs.declared.Page.{Page}
use Rattle.printing.specs.Page.{HasRoom, Wrote}
use Rattle.printing.proofs.Stores.{wrote_none, wrote_more, wrote_left}
use Rattle.text.specs.declared.items.Item.TheVariants.{Nothing, Header, Steps, Numbers, Named}
use Rattle.text.specs.Pieces.{behind, words, byte}
use Rattle.text.specs.Items.{name_of}
use Rattle.text.specs.Meaning.{four, step_bytes, header_bytes, word_bytes, repeat, said}
use Rattle.text.proofs.Words.{words_few, pieces_short, skip_short}

-- ---- a step again and again

repeat_none : (xs : List ℕ) → repeat 0 xs ≡ []
unfolding repeat
repeat_none xs = refl

repeat_last : (n : ℕ) (xs : List ℕ) → repeat (suc n) xs ≡ repeat n xs ++ xs
unfolding repeat
repeat_last zero xs = append-nil xs
repeat_last (suc n) xs = ap (λ (x : List ℕ). xs ++ x) (repeat_last n xs) ∙ sym (append_assoc xs (repeat n xs) xs)

pub repeat_long : (n : ℕ) (xs : List ℕ) → length xs ≡ 9 → length (repeat n xs) ≡ n * 9
unfolding repeat
repeat_long zero xs h = omega arith
repeat_long (suc n) xs h = let e = length-append xs (repeat n xs) in let f = repeat_long n xs h in omega arith

pub repeats_none : (xs : List ℕ) (p : Page) → p.len ≤ length p.room.now → Wrote (repeat 0 xs) p p
repeats_none xs p h = rw (repeat_none xs) (wrote_none p h)

pub repeats_more : (n : ℕ) (xs : List ℕ) (p q r : Page) → Wrote (repeat n xs) p q → Wrote xs q r → Wrote (repeat (n + 1) xs) p r
repeats_more n xs p q r w v =
    let e : n + 1 ≡ suc n = omega arith in
    rw (e, repeat_last n xs) (wrote_more (repeat n xs) xs p q r w v)

-- room for the steps that are left is room for the next one
pub repeats_room : (n m : ℕ) (xs : List ℕ) (p q : Page) → length xs ≡ 9 → n + 1 ≤ m → HasRoom (m * 9) p → Wrote (repeat n xs) p q → HasRoom 9 q
repeats_room n m xs p q h l room w = let k = repeat_long n xs h in wrote_left (n * 9) 9 (repeat n xs) p q (omega arith) (omega arith) w

-- ---- a name, a newline, and four bytes of a number of eight

-- the name's bytes up to place i
module _ (name : List ℕ) (i : ℕ) (p q : Page) (w : Wrote (take i name) p q) where
  pub letter_room : HasRoom (length name + 5) p → i < length name → HasRoom 1 q
  letter_room room h = let e = length-take-le i name (omega arith) in wrote_left i 1 (take i name) p q (omega arith) (omega arith) w

  pub letter_wrote : (r : Page) → i < length name → Wrote (get_or name i 0 ∷ []) q r → Wrote (take (i + 1) name) p r
  letter_wrote r h v = rw (take_more name i 0 h) (wrote_more (take i name) _ p q r w v)

  pub letters_wrote : length name ≡ i → Wrote name p q
  letters_wrote e = subst (λ (xs : List ℕ). Wrote xs p q) (ap (λ (n : ℕ). take n name) (sym e) ∙ take-length name) w

  pub mark_room : length name ≡ i → HasRoom (length name + 5) p → HasRoom 5 q
  mark_room e room = wrote_left (length name) 5 name p q (omega arith) room (letters_wrote e)

pub length_room : (p q : Page) → HasRoom 5 p → Wrote (10 ∷ []) p q → HasRoom 4 q
length_room p q room w = wrote_left 1 4 (10 ∷ []) p q (omega arith) room w

pub name_wrote : (name : List ℕ) (k : ℕ) (xs : List ℕ) (p a b q : Page) → xs ≡ to_be_bytes w64 k → Wrote name p a → Wrote (10 ∷ []) a b
    → Wrote (take 4 (drop 4 xs)) b q → Wrote (name ++ (10 ∷ four k)) p q
name_wrote name k xs p a b q e h i j =
    let low : take 4 (drop 4 xs) ≡ four k = rw e refl in
    wrote_more name _ p a q h (wrote_more (10 ∷ []) (four k) a b q i (subst (λ x. Wrote x b q) low j))

-- ---- by the item

module _ (l : List ℕ) (k : ℕ) where
  pub said_nothing : said l k Nothing ≡ []
  unfolding said
  said_nothing = refl

  pub said_header : (nb ne t : ℕ) → said l k (Header nb ne t) ≡ header_bytes nb ne t
  unfolding said
  said_header nb ne t = refl

  pub said_steps : (n code a b : ℕ) → said l k (Steps n code a b) ≡ repeat n (step_bytes code a b)
  unfolding said
  said_steps n code a b = refl

  pub said_numbers : said l k Numbers ≡ word_bytes (words (behind l))
  unfolding said
  said_numbers = refl

  pub said_named : said l k Named ≡ name_of l ++ (10 ∷ four k)
  unfolding said
  said_named = refl

  -- how many

  pub room_steps : (n code a b : ℕ) → length (said l k (Steps n code a b)) ≡ n * 9
  room_steps n code a b = ap length (said_steps n code a b) ∙ repeat_long n (step_bytes code a b) refl

  pub room_numbers : length (said l k Numbers) ≡ length (words (behind l))
  room_numbers = ap length said_numbers ∙ length-map (words (behind l)) (λ w. unwrap_or (byte w) 0)

  pub room_named : length (said l k Named) ≡ length (name_of l) + 5
  room_named = ap length said_named ∙ length-append (name_of l) (10 ∷ four k)

pub name_short : (l : List ℕ) → length (name_of l) ≤ length l
unfolding name_of
name_short l = let a = skip_short (behind l) in let b = pieces_short l in omega arith

pub numbers_short : (l : List ℕ) → length (words (behind l)) ≤ length l
numbers_short l = let a = words_few (behind l) in let b = pieces_short l in omega arith
