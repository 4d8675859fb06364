-- What a desk's stage says: 0 is idle, 1 looked, 2 claimed, 3 fetched; a number above 3 is no stage, and reads as idle.
use Rattle.std.proofs.Math.Bool.{and-false}
use Rattle.std.proofs.Common.{◌≡◌, ℕ, zero, suc, ◌<◌, Bool, true, false, ◌&&◌, ◌||◌, T, eqb, leb, ◌≢◌, List, [], ◌∷◌, if◌then◌else◌, sym, refl, ap, ◌∙◌, subst, ap₂, arith}
use borrow.Author.Tests.{ne_eqb, lt-leb}
use Rattle.book.specs.Total.{any}
use Rattle.book.specs.Steps.{Hold, Desk, idle, looked, holding, claimed_at, with_fetched}
use Rattle.book.proofs.Choice.{by_test}
use Rattle.line.specs.declared.Desk.{Desk as LentDesk}
use Rattle.line.specs.Line.{Spot, desk_of, spot_of}
use Rattle.line.specs.Tests.{clashes, holds_at, is_idle}
use Rattle.rules.specs.Holders.{held_turn, is_holding, no_turn}
use Rattle.line.specs.Rules.{held_in}

abbrev desk : ℕ → Spot → LentDesk
desk n s = record { stage = n; place = s.place; turn = s.turn }

-- the tests of a number that is no stage
record None (n : ℕ) : Type 0 where
  first : eqb n 1 ≡ false
  second : eqb n 2 ≡ false
  third : eqb n 3 ≡ false
  above : leb n 3 ≡ false

none : (n : ℕ) → 3 < n → None n
none n h = record {
  first = ne_eqb n 1 (λ e. omega arith);
  second = ne_eqb n 2 (λ e. omega arith);
  third = ne_eqb n 3 (λ e. omega arith);
  above = lt-leb n 3 h;
}

-- a proof by a desk's stage
module _ (P : LentDesk → Type 0) (a : (s : Spot) → P (desk 0 s)) (b : (s : Spot) → P (desk 1 s)) (c : (s : Spot) → P (desk 2 s)) (d : (s : Spot) → P (desk 3 s))
    (e : (s : Spot) (n : ℕ) → None n → P (desk n s)) where
  by_number : (s : Spot) (n : ℕ) → P (desk n s)
  by_number s zero = a s
  by_number s (suc zero) = b s
  by_number s (suc (suc zero)) = c s
  by_number s (suc (suc (suc zero))) = d s
  by_number s (suc (suc (suc (suc n)))) = let m = suc (suc (suc (suc n))) in e s m (none m (omega arith))

  by_stage : (x : LentDesk) → P x
  by_stage x = by_number (spot_of x) x.stage

-- what holds of each kind of desk holds of what is read off the numbers
pub of_desk : (P : Desk Spot → Type 0) (x : LentDesk) → P idle → P (looked (spot_of x)) → ((h : Hold Spot) → h.at ≡ spot_of x → P (holding h)) → P (desk_of x)
unfolding desk_of
of_desk P x a b c =
    let h = claimed_at (spot_of x) in
    by_test P (eqb x.stage 1) (λ s. b) (λ s. by_test P (eqb x.stage 2) (λ s. c h refl) (λ s. by_test P (eqb x.stage 3) (λ s. c (with_fetched h) refl) (λ s. a)))

pub idle_of : (x : LentDesk) → x.stage ≡ 0 → desk_of x ≡ idle
unfolding desk_of
idle_of x e = rw e

-- a number other than 0 is no stage, or not an idle desk's
pub stray : (o : Desk Spot → Bool) (x : LentDesk) → x.stage ≢ 0 → (leb x.stage 3 && o (desk_of x) && is_idle (desk_of x)) ≡ false
unfolding desk_of
stray o =
    by_stage (λ x. x.stage ≢ 0 → (leb x.stage 3 && o (desk_of x) && is_idle (desk_of x)) ≡ false) (λ s k. absurd (k refl))
    (λ s k. and-false (o (looked s))) (λ s k. and-false (o (holding (claimed_at s)))) (λ s k. and-false (o (holding (with_fetched (claimed_at s))))) (λ s n w k. rw w.above)

-- ---- the turn in which a desk has claimed or fetched: below the number that stands for none, it counts as the desk that holds in it

pub held : (t : ℕ) → t < no_turn → (x : LentDesk) → (if eqb (held_turn x) t then 1 else 0) ≡ held_in t (desk_of x)
unfolding desk_of
held t h =
    let none : (if eqb no_turn t then 1 else 0) ≡ 0 = ap (λ (b : Bool). if b then 1 else 0) (ne_eqb no_turn t (λ e. omega arith)) in
    by_stage (λ x. (if eqb (held_turn x) t then 1 else 0) ≡ held_in t (desk_of x)) (λ s. none) (λ s. none) (λ s. refl) (λ s. refl) (λ s n w. rw (w.first, w.second, w.third) none)

-- ---- two desks at one turn and place

pub or_false : (b : Bool) → b ≡ (b || false)
or_false true = refl
or_false false = refl

abbrev same : Spot → Spot → Bool → Bool
same s u h = h && eqb u.turn s.turn && eqb u.place s.place

at_of : (s : Spot) (y : LentDesk) → same s (spot_of y) (is_holding y) ≡ holds_at s (desk_of y)
unfolding desk_of
at_of s =
    by_stage (λ y. same s (spot_of y) (is_holding y) ≡ holds_at s (desk_of y)) (λ u. refl) (λ u. refl) (λ u. refl) (λ u. refl)
    (λ u n w. simp (w.first, w.second, w.third))

clash_of : (y x : LentDesk) → same (spot_of x) (spot_of y) (is_holding x && is_holding y) ≡ clashes (desk_of x) (y ∷ [])
unfolding desk_of any
clash_of y =
    let e : (s : Spot) → same s (spot_of y) (is_holding y) ≡ (holds_at s (desk_of y) || false) = λ s. at_of s y ∙ or_false (holds_at s (desk_of y)) in
    by_stage (λ x. same (spot_of x) (spot_of y) (is_holding x && is_holding y) ≡ clashes (desk_of x) (y ∷ [])) (λ s. refl) (λ s. refl) e e
    (λ s n w. simp (w.first, w.second, w.third))

pub clash : (x y : LentDesk) (g h : Bool) → g ≡ is_holding x → h ≡ is_holding y → same (spot_of x) (spot_of y) (g && h) ≡ clashes (desk_of x) (y ∷ [])
clash x y g h d e = ap₂ (λ (a b : Bool). same (spot_of x) (spot_of y) (a && b)) d e ∙ clash_of y x

-- a desk that holds nothing clashes with none
free_of : (ys : List LentDesk) (x : LentDesk) → is_holding x ≡ false → clashes (desk_of x) ys ≡ false
unfolding desk_of
free_of ys =
    by_stage (λ x. is_holding x ≡ false → clashes (desk_of x) ys ≡ false) (λ s e. refl) (λ s e. refl) (λ s e. absurd (subst T e tt)) (λ s e. absurd (subst T e tt))
    (λ s n w e. simp (w.first, w.second, w.third))

pub free : (x : LentDesk) (ys : List LentDesk) (h : Bool) → h ≡ is_holding x → h ≡ false → clashes (desk_of x) ys ≡ false
free x ys h e k = free_of ys x (sym e ∙ k)
