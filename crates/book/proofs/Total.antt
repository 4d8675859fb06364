-- Laws of sums and searches over a list.
use Rattle.std.proofs.Common.{◌≡◌, ℕ, zero, suc, ◌+◌, ◌<◌, ◌≤◌, Bool, T, ltb, List, [], ◌∷◌, ◌++◌, length, get_or, set, replicate, if◌then◌else◌, sym, refl, ap, ◌∙◌, le_of_suc-le-suc, not-suc-le-zero, arith, lt-ltb}
use Rattle.book.specs.Total.{total, any}
use Rattle.book.proofs.Choice.{cases, T→true, not→false}

module _ {A : Type 0} where
  pub total_append : (f : A → ℕ) (l m : List A) → total f (l ++ m) ≡ total f l + total f m
  unfolding total
  total_append f [] m = omega arith
  total_append f (x ∷ xs) m = let h = total_append f xs m in omega arith

  pub total_set : (f : A → ℕ) (l : List A) (i : ℕ) (x d : A) → i < length l → total f (set l i x) + f (get_or l i d) ≡ total f l + f x
  unfolding total
  total_set f [] i x d h = absurd (not-suc-le-zero h)
  total_set f (y ∷ ys) zero x d h = omega arith
  total_set f (y ∷ ys) (suc i) x d h = let r = total_set f ys i x d (le_of_suc-le-suc h) in omega arith

  pub total_mono : (f g : A → ℕ) → ((x : A) → f x ≤ g x) → (l : List A) → total f l ≤ total g l
  unfolding total
  total_mono f g h [] = omega arith
  total_mono f g h (x ∷ xs) = let r = total_mono f g h xs in omega (arith, h x)

  pub total_cong : (f g : A → ℕ) → ((x : A) → f x ≡ g x) → (l : List A) → total f l ≡ total g l
  total_cong f g h l = λ i. total (λ x. h x i) l

  -- where each counts at most 1, the total is at most the length; and less where one of them counts 0
  pub total_le : (f : A → ℕ) → ((x : A) → f x ≤ 1) → (l : List A) → total f l ≤ length l
  unfolding total
  total_le f h [] = omega arith
  total_le f h (x ∷ xs) = let r = total_le f h xs in omega (arith, h x)

  pub total_below : (f : A → ℕ) → ((x : A) → f x ≤ 1) → (l : List A) (i : ℕ) (x : A) → i < length l → f x ≡ 0 → total f (set l i x) + 1 ≤ length l
  unfolding total
  total_below f h [] i x b z = absurd (not-suc-le-zero b)
  total_below f h (y ∷ ys) zero x b z = let r = total_le f h ys in omega arith
  total_below f h (y ∷ ys) (suc i) x b z = let r = total_below f h ys i x (le_of_suc-le-suc b) z in omega (arith, h y)

  -- a total of 0 has no part, and without a part the total is 0
  pub total_zero : (f : A → ℕ) (l : List A) (i : ℕ) (d : A) → f d ≡ 0 → total f l ≡ 0 → f (get_or l i d) ≡ 0
  unfolding total
  total_zero f [] i d z h = z
  total_zero f (x ∷ xs) zero d z h = omega arith
  total_zero f (x ∷ xs) (suc i) d z h = total_zero f xs i d z (omega arith)

  pub total_none : (f : A → ℕ) (l : List A) (d : A) → ((i : ℕ) → f (get_or l i d) ≡ 0) → total f l ≡ 0
  unfolding total
  total_none f [] d h = refl
  total_none f (x ∷ xs) d h = let r = total_none f xs d (λ i. h (suc i)) in omega (arith, h 0)

  pub total_replicate : (f : A → ℕ) (n : ℕ) (x : A) → f x ≡ 0 → total f (replicate n x) ≡ 0
  unfolding total
  total_replicate f zero x h = refl
  total_replicate f (suc n) x h = let r = total_replicate f n x h in omega arith

  -- some element passes the test exactly if the number of those that pass is above 0
  pub any_total : (f : A → Bool) (l : List A) → any f l ≡ ltb 0 (total (λ x. if f x then 1 else 0) l)
  unfolding any total
  any_total f [] = refl
  any_total f (x ∷ xs) =
      let n = total (λ (y : A). if f y then 1 else 0) xs in
      cases (f x)
      (λ s. rw (T→true (f x) s) (sym (lt-ltb 0 (1 + n) (omega arith))))
      (λ s. rw (not→false (f x) s) (any_total f xs ∙ ap (ltb 0) (let e : n ≡ 0 + n = omega arith in e)))

  -- and then it stands somewhere
  pub any_at : (f : A → Bool) (l : List A) (d : A) → T (any f l) → (i : ℕ) × T (f (get_or l i d))
  unfolding any
  any_at f [] d h = absurd h
  any_at f (x ∷ xs) d h =
      cases {C = (i : ℕ) × T (f (get_or (x ∷ xs) i d))} (f x) (λ t. (0, t)) (λ t. let r = any_at f xs d (rw (not→false (f x) t) at h) in (suc r.0, r.1))

  pub replicate_at : (n i : ℕ) (x : A) → get_or (replicate n x) i x ≡ x
  replicate_at zero i x = refl
  replicate_at (suc n) zero x = refl
  replicate_at (suc n) (suc i) x = replicate_at n i x
