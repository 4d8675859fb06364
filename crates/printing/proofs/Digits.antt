-- The digits that are printed are the number's, and nothing else is: by the last digit, and the digits above it.
use Rattle.std.proofs.Common.{◌≡◌, ℕ, zero, suc, ◌+◌, ◌-◌, ◌*◌, ◌/◌, ◌%◌, ◌<◌, ◌≤◌, true, T, ltb, leb, List, [], ◌∷◌, ◌++◌, sym, refl, ap, ◌∙◌, subst, arith, le→leb, ltb→lt, leb→le, nltb→le}
use Rattle.book.specs.Total.{all}
use Rattle.book.proofs.Choice.{cases, and_first, and_second, and_in}
use Rattle.printing.specs.Text.{digit, decimal}
use Rattle.printing.specs.Decimal.{read_from, is_digit, Decimal, DecimalDigits, DecimalOnly}
use Rattle.printing.proofs.Decimals.{decimal_digit, decimal_more}

-- what holds below 10, and of a number where it holds of its tenth, holds of every number
by_tenths : (P : ℕ → Type 0) → ((n : ℕ) → n < 10 → P n) → ((n : ℕ) → 10 ≤ n → P (n / 10) → P n) → (k n : ℕ) → n ≤ k → P n
by_tenths P f g zero n h = f n (omega arith)
by_tenths P f g (suc k) n h =
    let more = by_tenths P f g k (n / 10) in
    cases (ltb n 10) (λ t. f n (ltb→lt n 10 t)) (λ t. let big = nltb→le n 10 t in g n big (more (omega arith)))

-- ---- a digit more at the end

read_last : (n : ℕ) (bs : List ℕ) (d : ℕ) → read_from n (bs ++ (d ∷ [])) ≡ read_from n bs * 10 + (d - 48)
read_last n [] d = refl
read_last n (b ∷ bs) d = read_last (n * 10 + (b - 48)) bs d

read_least : (n : ℕ) (bs : List ℕ) → n ≤ read_from n bs
read_least n [] = omega arith
read_least n (b ∷ bs) = let h = read_least (n * 10 + (b - 48)) bs in omega arith

digits_in : (bs : List ℕ) (d : ℕ) → T (all is_digit bs) → T (is_digit d) → T (all is_digit (bs ++ (d ∷ [])))
unfolding all
digits_in [] d t s = and_in (is_digit d) true s tt
digits_in (b ∷ bs) d t s =
    and_in (is_digit b) (all is_digit (bs ++ (d ∷ []))) (and_first (is_digit b) (all is_digit bs) t) (digits_in bs d (and_second (is_digit b) (all is_digit bs) t) s)

digits_out : (bs : List ℕ) (d : ℕ) → T (all is_digit (bs ++ (d ∷ []))) → T (all is_digit bs) × T (is_digit d)
unfolding all
digits_out [] d t = (tt, and_first (is_digit d) true t)
digits_out (b ∷ bs) d t =
    let r = all is_digit (bs ++ (d ∷ [])) in let o = digits_out bs d (and_second (is_digit b) r t) in
    (and_in (is_digit b) (all is_digit bs) (and_first (is_digit b) r t) o.0, o.1)

digit_low : (d : ℕ) → T (is_digit d) → 48 ≤ d
digit_low d t = leb→le 48 d (and_first (leb 48 d) (leb d 57) t)

digit_high : (d : ℕ) → T (is_digit d) → d ≤ 57
digit_high d t = leb→le d 57 (and_second (leb 48 d) (leb d 57) t)

is_digit_lem : (n : ℕ) → n < 10 → T (is_digit (digit n))
is_digit_lem n h = and_in (leb 48 (digit n)) (leb (digit n) 57) (le→leb 48 (digit n) (omega arith)) (le→leb (digit n) 57 (omega arith))

not_none : (bs : List ℕ) (d : ℕ) → bs ++ (d ∷ []) ≡ [] → ⊥
not_none [] d e = let z : ◌≡◌ {A = ℕ} 0 1 = cc in omega arith
not_none (b ∷ bs) d e = let z : ◌≡◌ {A = ℕ} 0 1 = cc in omega arith

-- what stands in front of a list stands in front of it with a digit more, and so the other way
front_of : (bs : List ℕ) (b d : ℕ) (rest : List ℕ) → (bs ≡ [] → ⊥) → bs ++ (d ∷ []) ≡ b ∷ rest → (r : List ℕ) × (bs ≡ b ∷ r)
front_of [] b d rest h e = absurd (h refl)
front_of (c ∷ bs) b d rest h e = let f : c ≡ b = cc in (bs, ap (λ (n : ℕ). n ∷ bs) f)

last_of : (bs : List ℕ) → (bs ≡ [] → ⊥) → (front : List ℕ) × (d : ℕ) × (bs ≡ front ++ (d ∷ []))
last_of [] h = absurd (h refl)
last_of (b ∷ []) h = ([], b, refl)
last_of (b ∷ c ∷ bs) h =
    let l = last_of (c ∷ bs) (λ e. let z : ◌≡◌ {A = ℕ} 0 1 = cc in omega arith) in
    (b ∷ l.0, l.1, ap (λ (r : List ℕ). b ∷ r) l.2)

-- ---- the printed digits are the number's

-- digits that say 1 or more do not begin with a zero
no_zero : (n : ℕ) (bs : List ℕ) → Decimal n bs → 1 ≤ n → (rest : List ℕ) → bs ≡ 48 ∷ rest → ⊥
no_zero n bs w h rest e =
    let r = w.leading rest e in
    let z : read_from 0 bs ≡ 0 = rw (e, r) refl in
    omega (arith, w.reads)

pub decimal_digits : DecimalDigits
unfolding DecimalDigits all
decimal_digits n =
    by_tenths (λ m. Decimal m (decimal m))
    (λ m h. rw (decimal_digit m h) (record { digits = and_in (is_digit (digit m)) true (is_digit_lem m h) tt; reads = omega arith; leading = λ rest e. (cc); some = λ e. let z : ◌≡◌ {A = ℕ} 0 1 = cc in omega arith }))
    (λ m h w.
    let d = digit (m % 10) in let bs = decimal (m / 10) in
    rw (decimal_more m h) (record {
      digits = digits_in bs d w.digits (is_digit_lem (m % 10) (omega arith));
      reads = read_last 0 bs d ∙ let e = w.reads in omega arith;
      leading = λ rest e. let f = front_of bs 48 d rest w.some e in absurd (no_zero (m / 10) bs w (omega arith) f.0 f.1);
      some = not_none bs d;
    }))
    n n (omega arith)

-- ---- and nothing else is

-- the last digit, and the digits above it
record Split (n : ℕ) (bs : List ℕ) : Type 0 where
  front : List ℕ
  d : ℕ
  splits : bs ≡ front ++ (d ∷ [])
  digits : T (all is_digit front)
  low : 48 ≤ d
  high : d ≤ 57
  reads : read_from 0 front * 10 + (d - 48) ≡ n

split : (n : ℕ) (bs : List ℕ) → Decimal n bs → Split n bs
split n bs w =
    let l = last_of bs w.some in
    let o = digits_out l.0 l.1 (subst (λ (r : List ℕ). T (all is_digit r)) l.2 w.digits) in
    record {
      front = l.0;
      d = l.1;
      splits = l.2;
      digits = o.0;
      low = digit_low l.1 o.1;
      high = digit_high l.1 o.1;
      reads = sym (read_last 0 l.0 l.1) ∙ sym (ap (read_from 0) l.2) ∙ w.reads;
    }

-- what stands above the last digit, if anything does, says 1 or more
above : (n : ℕ) (bs : List ℕ) (w : Decimal n bs) (front : List ℕ) (d : ℕ) → bs ≡ front ++ (d ∷ []) → T (all is_digit front) → (front ≡ [] → ⊥) → 1 ≤ read_from 0 front
unfolding all
above n bs w [] d e t h = absurd (h refl)
above n bs w (b ∷ front) d e t h =
    let low = digit_low b (and_first (is_digit b) (all is_digit front) t) in
    let least = read_least (0 * 10 + (b - 48)) front in
    let not : b ≡ 48 → ⊥ = λ z. not_none front d (w.leading (front ++ (d ∷ [])) (e ∙ ap (λ (c : ℕ). c ∷ (front ++ (d ∷ []))) z)) in
    omega arith

by_empty : {C : Type 0} (l : List ℕ) → (l ≡ [] → C) → ((l ≡ [] → ⊥) → C) → C
by_empty [] f g = f refl
by_empty (b ∷ l) f g = g (λ e. let z : ◌≡◌ {A = ℕ} 0 1 = cc in omega arith)

module _ (n : ℕ) (bs : List ℕ) (w : Decimal n bs) where
  abbrev s : Split n bs
  s = split n bs w

  positive : (s.front ≡ [] → ⊥) → 1 ≤ read_from 0 s.front
  positive = above n bs w s.front s.d s.splits s.digits

  one_digit : n < 10 → bs ≡ decimal n
  one_digit h =
      by_empty s.front
      (λ e.
      let r : read_from 0 [] * 10 + (s.d - 48) ≡ n = rw e at s.reads in
      let f : s.d ≡ digit n = omega (arith, s.low) in
      s.splits ∙ ap (λ (l : List ℕ). l ++ (s.d ∷ [])) e ∙ ap (λ (k : ℕ). k ∷ []) f ∙ sym (decimal_digit n h))
      (λ some. let p = positive some in absurd (omega (arith, s.reads)))

  digits_above : 10 ≤ n → (s.front ≡ [] → ⊥) → Decimal (n / 10) s.front
  digits_above h some = record {
    digits = s.digits;
    reads = omega (arith, s.reads, s.low, s.high);
    leading = λ rest e. absurd (not_none rest s.d (w.leading (rest ++ (s.d ∷ [])) (s.splits ∙ ap (λ (l : List ℕ). l ++ (s.d ∷ [])) e)));
    some = some;
  }

  more_digits : 10 ≤ n → ((l : List ℕ) → Decimal (n / 10) l → l ≡ decimal (n / 10)) → bs ≡ decimal n
  more_digits h same =
      by_empty s.front
      (λ e. let r : read_from 0 [] * 10 + (s.d - 48) ≡ n = rw e at s.reads in absurd (omega (arith, s.high)))
      (λ some.
      let f : s.d ≡ digit (n % 10) = omega (arith, s.reads, s.low, s.high) in
      s.splits ∙ ap (λ (l : List ℕ). l ++ (s.d ∷ [])) (same s.front (digits_above h some)) ∙ ap (λ (k : ℕ). decimal (n / 10) ++ (k ∷ [])) f ∙ sym (decimal_more n h))

pub decimal_only : DecimalOnly
unfolding DecimalOnly
decimal_only n bs w = by_tenths (λ m. (l : List ℕ) → Decimal m l → l ≡ decimal m) (λ m h l v. one_digit m l v h) (λ m h same l v. more_digits m l v h same) n n (omega arith) bs w
