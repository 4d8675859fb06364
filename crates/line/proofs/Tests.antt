-- Tests and sentences. A test tells a sentence if it passes exactly where the sentence holds: `Tells test sentence`. Here
-- are the laws for the tests of numbers, for their combinations and for searches over a list. They are written as the
-- test is, `le and lt and (eq implies lt)`; the numbers compared are found from the sentence.
use Rattle.std.proofs.Common.{◌≡◌, ℕ, zero, suc, ◌<◌, ◌≤◌, Bool, true, false, not, ◌&&◌, ◌||◌, T, eqb, ltb, leb, List, [], ◌∷◌, get_or, if◌then◌else◌, refl, ap, ◌∙◌, le→leb, eqb→eq, ltb→lt, lt→ltb, leb→le, T_not}
use Rattle.std.proofs.Math.Dec.{not_T}
use Rattle.book.specs.Total.{any, all}
use Rattle.book.proofs.Choice.{eq→eqb}

infixl 35 ◌and◌
infixl 30 ◌or◌
infixl 30 ◌implies◌
pub record Tells (b : Bool) (P : Type 0) : Type 0 where
  pub to : T b → P
  pub from : P → T b

-- every test tells that it passes
pub itself : {b : Bool} → Tells b (T b)
itself = record { to = λ t. t; from = λ t. t }

-- the same sentence in other words
pub told : {b : Bool} {P Q : Type 0} → Tells b P → (P → Q) → (Q → P) → Tells b Q
told e f g = record { to = λ t. f (e.to t); from = λ q. e.from (g q) }

-- ---- of numbers

pub le : {m n : ℕ} → Tells (leb m n) (m ≤ n)
le {m} {n} = record { to = leb→le m n; from = le→leb m n }

pub lt : {m n : ℕ} → Tells (ltb m n) (m < n)
lt {m} {n} = record { to = ltb→lt m n; from = lt→ltb m n }

pub eq : {m n : ℕ} → Tells (eqb m n) (m ≡ n)
eq {m} {n} = record { to = eqb→eq m n; from = eq→eqb m n }

-- ---- combined

pub isnt : {b : Bool} {P : Type 0} → Tells b P → Tells (not b) (P → ⊥)
isnt {b} e = record { to = λ t p. T_not b t (e.from p); from = λ h. not_T b (λ t. h (e.to t)) }

pub ◌and◌ : {a b : Bool} {A B : Type 0} → Tells a A → Tells b B → Tells (a && b) (A × B)
◌and◌ {a = true} f g = record { to = λ t. (f.to tt, g.to t); from = λ h. g.from h.1 }
◌and◌ {a = false} f g = record { to = λ t. absurd t; from = λ h. f.from h.0 }

pub ◌or◌ : {a b : Bool} {A B : Type 0} → Tells a A → Tells b B → Tells (a || b) ((A → ⊥) → B)
◌or◌ {a = true} f g = record { to = λ _ n. absurd (n (f.to tt)); from = λ _. tt }
◌or◌ {a = false} f g = record { to = λ t _. g.to t; from = λ h. g.from (h f.from) }

pub ◌implies◌ : {a b : Bool} {A B : Type 0} → Tells a A → Tells b B → Tells (not a || b) (A → B)
◌implies◌ {a = true} f g = record { to = λ t _. g.to t; from = λ h. g.from (h (f.to tt)) }
◌implies◌ {a = false} f g = record { to = λ _ p. absurd (f.from p); from = λ _. tt }

pub choice : {a b c : Bool} {A B C : Type 0} → Tells a A → Tells b B → Tells c C → Tells (if a then b else c) ((A → B) × ((A → ⊥) → C))
choice {a = true} f g k = record { to = λ t. (λ _. g.to t, λ n. absurd (n (f.to tt))); from = λ h. g.from (h.0 (f.to tt)) }
choice {a = false} f g k = record { to = λ t. (λ p. absurd (f.from p), λ _. k.to t); from = λ h. k.from (h.1 f.from) }

-- ---- over a list, with a d for the places past its end

not_or : (a b : Bool) → not (a || b) ≡ (not a && not b)
not_or true b = refl
not_or false b = refl

module _ {A : Type 0} where
  none_all : (f : A → Bool) (xs : List A) → not (any f xs) ≡ all (λ x. not (f x)) xs
  unfolding any all
  none_all f [] = refl
  none_all f (x ∷ xs) = not_or (f x) (any f xs) ∙ ap (λ (b : Bool). not (f x) && b) (none_all f xs)

  pub all_told : {f : A → Bool} {P : A → Type 0} (d : A) → P d → ((x : A) → Tells (f x) (P x))
      → (xs : List A) → Tells (all f xs) ((n : ℕ) → P (get_or xs n d))
  unfolding all
  all_told d h e [] = record { to = λ _ n. h; from = λ _. tt }
  all_told d h e (x ∷ xs) = told (e x and all_told d h e xs) (λ p. elim [ zero ↦ p.0 | suc n ↦ p.1 n ]) (λ p. (p 0, λ n. p (suc n)))

  pub none_told : {f : A → Bool} {P : A → Type 0} (d : A) → (P d → ⊥) → ((x : A) → Tells (f x) (P x))
      → (xs : List A) → Tells (not (any f xs)) ((n : ℕ) → P (get_or xs n d) → ⊥)
  none_told {f} d h e xs = rw (none_all f xs) (all_told d h (λ x. isnt (e x)) xs)

  -- what passes all along the list passes at each place
  pub all_at : (f : A → Bool) (d : A) → T (f d) → (xs : List A) (n : ℕ) → T (all f xs) → T (f (get_or xs n d))
  all_at f d h xs n t = (all_told {f = f} d h (λ x. itself) xs).to t n
