-- How long a text is: a line of the header or of a step has a word of six letters at most, a number of five digits and
-- two of ten, and a newline; a step that is cut short has eight bytes at most.
use Rattle.std.proofs.Common.{Bool, true, false, ◌&&◌, if◌then◌else◌, List, [], ◌∷◌, ◌++◌, ℕ, zero, suc, ◌+◌, ◌-◌, ◌*◌, ◌^◌, ◌≤◌, ◌<◌, length, get_or, codes, arith, lit≤, length-append, length-drop}
use Rattle.std.proofs.lemmas.List.{get_or-drop}
use Prim.Native.String.{String}
use Rattle.book.specs.Choice.{◌≡ᵇ◌}
use Rattle.book.specs.Sizes.{within}
use Rattle.book.specs.Steps.{Step}
use Rattle.schedule.specs.Bytes.{limit, header_bytes, step_bytes, byte_at, number_at, step_at, steps_from, whole_steps, steps_of, is_cut}
use Rattle.printing.specs.Text.{decimal}
use Rattle.printing.proofs.Decimals.{decimal_short}
use Rattle.shown.specs.Shown.{numbers_text, line_text, step_text, steps_text, cut_bytes, cut_text, size_text, text}

-- the longest line of a header or of a step
abbrev line_most : ℕ
line_most = 35

numbers_none : length (numbers_text []) ≤ 1
unfolding numbers_text
numbers_none = omega arith

numbers_more : (n : ℕ) (ns : List ℕ) (k j : ℕ) → length (decimal n) ≤ k → length (numbers_text ns) ≤ j → length (numbers_text (n ∷ ns)) ≤ k + j + 1
unfolding numbers_text
numbers_more n ns k j h g = omega (arith, length-append (decimal n) (numbers_text ns))

short : (n : ℕ) → n < 1000 → length (decimal n) ≤ 3
short n h = decimal_short 2 n (omega arith)

long : (n : ℕ) → n < 2 ^ 32 → length (decimal n) ≤ 10
long n h = decimal_short 9 n (omega arith)

record Short (l : List ℕ) : Type 0 where
  most : length l ≤ line_most

module _ (w : String) (h : length (codes w) ≤ 7) where
  line_short : (ns : List ℕ) (k : ℕ) → length (numbers_text ns) ≤ k → k ≤ 27 → Short (line_text w ns)
  line_short ns k g j = record { most = omega (arith, length-append (codes w) (numbers_text ns)) }

  none_short : Short (line_text w [])
  none_short = line_short [] 1 numbers_none (omega arith)

  one_short : (a : ℕ) → a < 2 ^ 32 → Short (line_text w (a ∷ []))
  one_short a p = line_short (a ∷ []) 12 (numbers_more a [] 10 1 (long a p) numbers_none) (omega arith)

  two_short : (a b : ℕ) → a < 2 ^ 32 → b < 2 ^ 32 → Short (line_text w (a ∷ b ∷ []))
  two_short a b p q = line_short (a ∷ b ∷ []) 23 (numbers_more a (b ∷ []) 10 12 (long a p) (numbers_more b [] 10 1 (long b q) numbers_none)) (omega arith)

  three_short : (a b c : ℕ) → a < 1000 → b < 2 ^ 32 → c < 2 ^ 32 → Short (line_text w (a ∷ b ∷ c ∷ []))
  three_short a b c p q r =
      line_short (a ∷ b ∷ c ∷ []) 27
      (numbers_more a (b ∷ c ∷ []) 3 23 (short a p) (numbers_more b (c ∷ []) 10 12 (long b q) (numbers_more c [] 10 1 (long c r) numbers_none))) (omega arith)

-- ---- a step

either : (b : Bool) {x y : List ℕ} → Short x → Short y → Short (if b then x else y)
either true h g = h
either false h g = g

step_short : (s : Step) → s.code < 1000 → s.a < 2 ^ 32 → s.b < 2 ^ 32 → Short (step_text s)
unfolding step_text
step_short s k h g =
    let none = s.a ≡ᵇ 0 && s.b ≡ᵇ 0 in
    let less : (n : ℕ) → s.code - n < 2 ^ 32 = λ n. omega arith in
    either (s.code ≡ᵇ 0 && s.b ≡ᵇ 0) (one_short "put" (lit≤ tt) s.a h)
    (either (s.code ≡ᵇ 1 && none) (none_short "get" (lit≤ tt))
    (either (s.code ≡ᵇ 2) (two_short "order" (lit≤ tt) s.a s.b h g)
    (either (within 16 31 s.code && none) (one_short "claim" (lit≤ tt) (s.code - 16) (less 16))
    (either (within 32 47 s.code && none) (one_short "fetch" (lit≤ tt) (s.code - 32) (less 32))
    (either (within 48 63 s.code && none) (one_short "finish" (lit≤ tt) (s.code - 48) (less 48))
    (either (within 64 79 s.code && s.b ≡ᵇ 0) (two_short "look" (lit≤ tt) (s.code - 64) s.a (less 64) h)
    (three_short "step" (lit≤ tt) s.code s.a s.b k h g)))))))

-- ---- a schedule

bytes_short : (ns : List ℕ) → ((k : ℕ) → get_or ns k 0 < 256) → length (numbers_text ns) ≤ 4 * length ns + 1
bytes_short [] h = numbers_none
bytes_short (n ∷ ns) h =
    let more = numbers_more n ns 3 (4 * length ns + 1) (let b = h 0 in short n (omega arith)) (bytes_short ns (λ k. h (suc k))) in omega arith

cut_either : (b : Bool) (x y : List ℕ) → length x ≤ 38 → length y ≤ 38 → length (if b then x else y) ≤ 38
cut_either true x y h g = h
cut_either false x y h g = g

module _ (bs : List ℕ) (bytes : (k : ℕ) → byte_at bs k < 256) where
  number_low : (i : ℕ) → number_at bs i < 2 ^ 32
  number_low i = let p = bytes i in let q = bytes (i + 1) in let r = bytes (i + 2) in let s = bytes (i + 3) in omega arith

  steps_short : (n i : ℕ) → length (steps_text (steps_from bs n i)) ≤ line_most * n
  unfolding steps_from steps_text
  steps_short zero i = omega arith
  steps_short (suc n) i =
      let s = step_at bs i in
      let one = (step_short s (let b = bytes i in omega arith) (number_low (i + 1)) (number_low (i + 5))).most in
      let more = steps_short n (i + step_bytes) in
      omega (arith, length-append (step_text s) (steps_text (steps_from bs n (i + step_bytes))))

  size_short : length (size_text bs) ≤ line_most
  unfolding size_text
  size_short =
      let p = bytes 5 in let q = bytes 6 in let r = bytes 7 in
      (three_short "size" (lit≤ tt) (byte_at bs 5) (byte_at bs 6) (byte_at bs 7) (omega arith) (omega arith) (omega arith)).most

  cut_short : length (cut_text bs) ≤ 38
  unfolding cut_text
  cut_short =
      let at = header_bytes + step_bytes * whole_steps bs in
      let left = bytes_short (cut_bytes bs) (λ k. rw (get_or-drop at bs k 0) (bytes (at + k))) in
      let few : length (line_text "bytes" (cut_bytes bs)) ≤ 38 =
      omega (arith, length-append (codes "bytes") (numbers_text (cut_bytes bs)), length-drop at bs) in
      cut_either (is_cut bs) (line_text "bytes" (cut_bytes bs)) [] few (omega arith)

  pub text_short : length bs ≤ limit → length (text bs) ≤ 262144
  unfolding text steps_of
  text_short h =
      let a = size_short in let b = steps_short (whole_steps bs) header_bytes in let c = cut_short in
      omega (arith, length-append (size_text bs) (steps_text (steps_of bs) ++ cut_text bs), length-append (steps_text (steps_of bs)) (cut_text bs))
