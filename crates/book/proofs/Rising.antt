-- Laws of lists that rise: each number larger than the one before it.
use Rattle.std.proofs.Common.{◌≡◌, ℕ, zero, suc, ◌+◌, ◌<◌, ◌≤◌, Bool, T, List, [], ◌∷◌, ◌++◌, map, length, get_or, take, drop, refl, ap, le_trans, le_of_suc-le-suc, arith, drop-cons, filter}
use Rattle.std.specs.List.{AllByRecursion as All}
use Rattle.std.proofs.Math.Seq.{drop-nil}
use mathlib.Core.List.{Sublistᴰ}
use mathlib.Core.List.Sublistᴰ
use Rattle.book.specs.Total.{up_from}
use Rattle.book.specs.Order.{Increasing}
use Rattle.book.proofs.Choice.{by_test}

-- each is at least a, and larger than the one before it
abbrev pub RisesFrom : ℕ → List ℕ → Type 0
RisesFrom a [] = Unit {0}
RisesFrom a (n ∷ l) = (a ≤ n) × RisesFrom (suc n) l

pub increasing : (a : ℕ) (l : List ℕ) → RisesFrom a l → Increasing l
increasing a [] r = tt
increasing a (n ∷ []) r = tt
increasing a (n ∷ m ∷ l) r = (r.1.0, increasing (suc n) (m ∷ l) r.1)

pub rises_lower : (a c : ℕ) (l : List ℕ) → c ≤ a → RisesFrom a l → RisesFrom c l
rises_lower a c [] h r = tt
rises_lower a c (n ∷ l) h r = (le_trans h r.0, r.1)

pub rises_from : (a c : ℕ) (l : List ℕ) → RisesFrom c l → All (λ n. a ≤ n) l → RisesFrom a l
rises_from a c [] r h = tt
rises_from a c (n ∷ l) r h = (h.0, r.1)

-- a rising list goes on with one that rises from above each of its numbers
pub rises_on : (a : ℕ) (l m : List ℕ) → RisesFrom a l → All (λ n. RisesFrom (suc n) m) l → RisesFrom a m → RisesFrom a (l ++ m)
rises_on a [] m r h s = s
rises_on a (n ∷ l) m r h s = (r.0, rises_on (suc n) l m r.1 h.1 h.0)

pub all_map : (Q R : ℕ → Type 0) → ((n : ℕ) → Q n → R n) → (l : List ℕ) → All Q l → All R l
all_map Q R f [] h = tt
all_map Q R f (n ∷ l) h = (f n h.0, all_map Q R f l h.1)

pub all_both : (Q R S : ℕ → Type 0) → ((n : ℕ) → Q n → R n → S n) → (l : List ℕ) → All Q l → All R l → All S l
all_both Q R S f [] h g = tt
all_both Q R S f (n ∷ l) h g = (f n h.0 g.0, all_both Q R S f l h.1 g.1)

pub all_append : (Q : ℕ → Type 0) (l m : List ℕ) → All Q l → All Q m → All Q (l ++ m)
all_append Q [] m h g = g
all_append Q (n ∷ l) m h g = (h.0, all_append Q l m h.1 g)

-- ---- numbers in a row

pub up_rises : (n a : ℕ) → RisesFrom a (up_from n a)
up_rises zero a = tt
up_rises (suc n) a = (omega arith, up_rises n (suc a))

pub up_add : (n m a : ℕ) → up_from (n + m) a ≡ up_from n a ++ up_from m (a + n)
up_add zero m a = let e : 0 + m ≡ m = omega arith in let d : a + 0 ≡ a = omega arith in rw (e, d) refl
up_add (suc n) m a = let e : suc n + m ≡ suc (n + m) = omega arith in let d : a + suc n ≡ suc a + n = omega arith in rw (e, d) (ap (λ (l : List ℕ). a ∷ l) (up_add n m (suc a)))

pub up_reads : (l : List ℕ) (n a : ℕ) → a + n ≤ length l → map (λ i. get_or l i 0) (up_from n a) ≡ take n (drop a l)
up_reads l zero a h = refl
up_reads l (suc n) a h = rw (drop-cons l a 0 (omega arith)) (ap (λ (m : List ℕ). get_or l a 0 ∷ m) (up_reads l n (suc a) (omega arith)))

-- ---- those that pass a test

module _ (p : ℕ → Bool) where
  pub filter_rise : (a : ℕ) (l : List ℕ) → RisesFrom a l → RisesFrom a (filter p l)
  filter_rise a [] r = tt
  filter_rise a (n ∷ l) r =
      let s = filter_rise (suc n) l r.1 in
      by_test (RisesFrom a) (p n) (λ _. (r.0, s)) (λ _. rises_lower (suc n) a (filter p l) (omega (arith, r.0)) s)

  pub filter_pass : (l : List ℕ) → All (λ n. T (p n)) (filter p l)
  filter_pass [] = tt
  filter_pass (n ∷ l) = by_test (All (λ n. T (p n))) (p n) (λ t. (t, filter_pass l)) (λ _. filter_pass l)

  pub filter_keep : (Q : ℕ → Type 0) (l : List ℕ) → All Q l → All Q (filter p l)
  filter_keep Q [] h = tt
  filter_keep Q (n ∷ l) h = by_test (All Q) (p n) (λ _. (h.0, filter_keep Q l h.1)) (λ _. filter_keep Q l h.1)

-- ---- what stands at rising places of a list is the list with some left out

skipped : (x l : List ℕ) (a c : ℕ) → a ≤ c → Sublistᴰ x (drop c l) → Sublistᴰ x (drop a l)
skipped x [] a c h s = rw (drop-nil a) (rw (drop-nil c) at s)
skipped x (n ∷ l) zero zero h s = s
skipped x (n ∷ l) zero (suc c) h s = Sublistᴰ.cons (skipped x l 0 c (omega arith) s)
skipped x (n ∷ l) (suc a) zero h s = absurd (omega arith)
skipped x (n ∷ l) (suc a) (suc c) h s = skipped x l a c (le_of_suc-le-suc h) s

pub picked : (l ns : List ℕ) (a : ℕ) → RisesFrom a ns → All (λ n. n < length l) ns → Sublistᴰ (map (λ n. get_or l n 0) ns) (drop a l)
picked l [] a r h = Sublistᴰ.nil-sublist (drop a l)
picked l (n ∷ ns) a r h =
    skipped _ l a n r.0 (rw (drop-cons l n 0 h.0) (Sublistᴰ.cons-cons refl (picked l ns (suc n) r.1 h.1)))
