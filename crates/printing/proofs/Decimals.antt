-- Numbers in decimal: a number below 10 is its digit, any other the digits of its tenth and then its last one. So the
-- digits are digits, they read back as the number, there is no zero in front, and a bound on the number bounds them.
use Rattle.std.proofs.Common.{◌≡◌, ℕ, zero, suc, ◌/◌, ◌%◌, ◌^◌, ◌<◌, ◌≤◌, ltb, List, [], ◌∷◌, ◌++◌, length, sym, refl, ap, ◌∙◌, pow-suc, arith, ltb→lt, nltb→le, length-append, le-ltb, lt-ltb}
use Rattle.book.proofs.Choice.{cases}
use Rattle.printing.specs.Text.{digit, digits, decimal}

-- ---- any bound serves

digits_small : (k n : ℕ) → n < 10 → digits k n ≡ digit n ∷ []
unfolding digits
digits_small zero n h = refl
digits_small (suc k) n h = rw (lt-ltb n 10 h) refl

digits_large : (k n : ℕ) → 10 ≤ n → digits (suc k) n ≡ digits k (n / 10) ++ (digit (n % 10) ∷ [])
unfolding digits
digits_large k n h = rw (le-ltb n 10 h) refl

digits_same : (k j n : ℕ) → n ≤ k → n ≤ j → digits k n ≡ digits j n
digits_same zero j n h g = digits_small zero n (omega arith) ∙ sym (digits_small j n (omega arith))
digits_same (suc k) zero n h g = digits_small (suc k) n (omega arith) ∙ sym (digits_small zero n (omega arith))
digits_same (suc k) (suc j) n h g =
    let more = digits_same k j (n / 10) in
    cases (ltb n 10)
    (λ t. digits_small (suc k) n (ltb→lt n 10 t) ∙ sym (digits_small (suc j) n (ltb→lt n 10 t)))
    (λ t.
    let big = nltb→le n 10 t in
    digits_large k n big ∙ ap (λ (l : List ℕ). l ++ (digit (n % 10) ∷ [])) (more (omega arith) (omega arith)) ∙ sym (digits_large j n big))

-- ---- the two rules

pub decimal_digit : (n : ℕ) → n < 10 → decimal n ≡ digit n ∷ []
unfolding decimal
decimal_digit n h = digits_small n n h

pub decimal_more : (n : ℕ) → 10 ≤ n → decimal n ≡ decimal (n / 10) ++ (digit (n % 10) ∷ [])
unfolding decimal
decimal_more zero h = absurd (omega arith)
decimal_more (suc n) h =
    digits_large n (suc n) h ∙ ap (λ (l : List ℕ). l ++ (digit (suc n % 10) ∷ [])) (digits_same n (suc n / 10) (suc n / 10) (omega arith) (omega arith))

-- ---- how long

pub decimal_one : (n : ℕ) → n < 10 → length (decimal n) ≡ 1
decimal_one n h = rw (decimal_digit n h)

pub decimal_longer : (n : ℕ) → 10 ≤ n → length (decimal n) ≡ suc (length (decimal (n / 10)))
decimal_longer n h = rw (decimal_more n h, length-append (decimal (n / 10)) (digit (n % 10) ∷ [])) (omega arith)

pub decimal_short : (k n : ℕ) → n < 10 ^ suc k → length (decimal n) ≤ suc k
decimal_short zero n h = let e = decimal_one n h in omega arith
decimal_short (suc k) n h =
    let more = decimal_short k (n / 10) in
    let p = pow-suc 10 (suc k) in
    cases (ltb n 10)
    (λ t. let e = decimal_one n (ltb→lt n 10 t) in omega arith)
    (λ t. let e = decimal_longer n (nltb→le n 10 t) in let m = more (omega arith) in omega arith)
