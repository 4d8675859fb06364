-- Along the desks by their places.
use Rattle.std.proofs.Common.{◌≡◌, ℕ, zero, suc, ◌+◌, ◌-◌, ◌*◌, ◌%◌, ◌<◌, ◌≤◌, Bool, true, false, not, ◌&&◌, ◌||◌, eqb, List, [], ◌∷◌, map, length, get_or, drop, if◌then◌else◌, count_by, sym, refl, ap, ◌∙◌, ap₂, add-one, arith, drop_of_length-le, drop-cons}
use Rattle.std.proofs.Math.Seq.{drop-nil}
use Rattle.std.proofs.Math.Bool.{and-false}
use Rattle.std.proofs.lemmas.List.Sums.{sum_by-cons}
use Rattle.book.specs.Total.{total, any, all}
use Rattle.book.specs.Steps.{Desk, idle, looked, holding}
use Rattle.book.proofs.Choice.{cases, T→true, not→false}
use Rattle.line.specs.declared.Desk.{Desk as LentDesk}
use Rattle.line.specs.Line.{Spot, numbers_of, desk_of}
use Rattle.line.specs.Rules.{held_in}
use Rattle.line.specs.Tests.{clashes, holds_at, no_clash}
use Rattle.rules.specs.Holders.{held_turn, no_turn}
use Rattle.rules.proofs.Stages.{held, or_false}

abbrev pub at : List LentDesk → ℕ → LentDesk
at ds d = get_or ds d (numbers_of idle)

-- ---- counting those that hold in a turn

-- a line's turns are below the number that stands for none
pub turn_few : (nb p i : ℕ) → nb ≤ 64 → p < 65536 * nb → p - (p - i) % nb < no_turn
turn_few nb p i few below = omega arith

pub held_by_turn : (t : ℕ) (ds : List LentDesk) → t < no_turn → count_by (λ x. eqb x t) (map held_turn ds) ≡ total (λ x. held_in t (desk_of x)) ds
unfolding total
held_by_turn t [] h = refl
held_by_turn t (x ∷ ds) h = sum_by-cons (λ y. if eqb y t then 1 else 0) (held_turn x) (map held_turn ds) ∙ ap₂ ◌+◌ (held t h x) (held_by_turn t ds h)

-- ---- two by two

first_of : (x : Desk Spot) (y : LentDesk) (ys : List LentDesk) → clashes x (y ∷ ys) ≡ (clashes x (y ∷ []) || clashes x ys)
unfolding any
first_of idle y ys = refl
first_of (looked s) y ys = refl
first_of (holding h) y ys = ap (λ (b : Bool). b || any (λ z. holds_at h.at (desk_of z)) ys) (or_false (holds_at h.at (desk_of y)))

module _ (ds : List LentDesk) where
  -- desk j beside one that holds x
  module _ (x : Desk Spot) (j : ℕ) (h : j < length ds) where
    step : clashes x (drop j ds) ≡ (clashes x (at ds j ∷ []) || clashes x (drop (j + 1) ds))
    step = rw (add-one, drop-cons ds j (numbers_of idle)) (first_of x (at ds j) (drop (suc j) ds))

    pub pair_past : clashes x (at ds j ∷ []) ≡ false → clashes x (drop j ds) ≡ clashes x (drop (j + 1) ds)
    pair_past e = step ∙ ap (λ (b : Bool). b || clashes x (drop (j + 1) ds)) e

    pub pair_here : clashes x (at ds j ∷ []) ≡ true → clashes x (drop j ds) ≡ true
    pair_here e = step ∙ ap (λ (b : Bool). b || clashes x (drop (j + 1) ds)) e

  pub pair_end : (x : Desk Spot) (j : ℕ) → length ds ≤ j → clashes x (drop j ds) ≡ false
  unfolding any
  pair_end idle j h = refl
  pair_end (looked s) j h = refl
  pair_end (holding x) j h = rw drop_of_length-le

  -- desk i beside the later ones
  module _ (i : ℕ) (h : i < length ds) where
    later : no_clash (drop i ds) ≡ (not (clashes (desk_of (at ds i)) (drop (i + 1) ds)) && no_clash (drop (i + 1) ds))
    unfolding no_clash
    later = rw (add-one, drop-cons ds i (numbers_of idle))

    pub desk_past : clashes (desk_of (at ds i)) (drop (i + 1) ds) ≡ false → no_clash (drop i ds) ≡ no_clash (drop (i + 1) ds)
    desk_past e = later ∙ ap (λ (b : Bool). not b && no_clash (drop (i + 1) ds)) e

    pub desk_here : clashes (desk_of (at ds i)) (drop (i + 1) ds) ≡ true → no_clash (drop i ds) ≡ false
    desk_here e = later ∙ ap (λ (b : Bool). not b && no_clash (drop (i + 1) ds)) e

  pub desk_end : (i : ℕ) → length ds ≤ i → no_clash (drop i ds) ≡ true
  unfolding no_clash
  desk_end i h = rw drop_of_length-le

-- ---- one by one: each desk passes f, and from place t on passes g

module _ (f g : LentDesk → Bool) where
  abbrev pub rest : ℕ → List LentDesk → Bool
  rest t xs = all f xs && all g (drop t xs)

  past_of : (t : ℕ) (x : LentDesk) (xs : List LentDesk) → f x ≡ true → (t ≡ 0 → g x ≡ true) → rest t (x ∷ xs) ≡ rest (t - 1) xs
  unfolding all
  past_of zero x xs e k = rw (e, k refl)
  past_of (suc t) x xs e k = rw e (ap (λ (n : ℕ). all f xs && all g (drop n xs)) (let d : t ≡ suc t - 1 = omega arith in d))

  stray_of : (x : LentDesk) (xs : List LentDesk) → (f x && g x) ≡ false → rest 0 (x ∷ xs) ≡ false
  unfolding all
  stray_of x xs e =
      cases (f x)
      (λ s. rw (T→true (f x) s, rw (T→true (f x) s) at e) (and-false (all f xs)))
      (λ s. rw (not→false (f x) s))

  module _ (ds : List LentDesk) (t d : ℕ) where
    pub rest_past : d < length ds → f (at ds d) ≡ true → (t ≤ d → g (at ds d) ≡ true) → rest (t - d) (drop d ds) ≡ rest (t - (d + 1)) (drop (d + 1) ds)
    rest_past h e k =
        let n : t - d - 1 ≡ t - (d + 1) = omega arith in
        ap (rest (t - d)) (drop-cons ds d (numbers_of idle) h)
        ∙ past_of (t - d) (at ds d) (drop (suc d) ds) e (λ z. k (omega arith))
        ∙ ap₂ (λ (n m : ℕ). rest n (drop m ds)) n (sym (add-one d))

    pub rest_broken : d < length ds → f (at ds d) ≡ false → rest (t - d) (drop d ds) ≡ false
    unfolding all
    rest_broken h e = ap (rest (t - d)) (drop-cons ds d (numbers_of idle) h) ∙ rw e

    pub rest_stray : d < length ds → t ≤ d → (f (at ds d) && g (at ds d)) ≡ false → rest (t - d) (drop d ds) ≡ false
    rest_stray h k e =
        let z : t - d ≡ 0 = omega arith in
        ap₂ rest z (drop-cons ds d (numbers_of idle) h) ∙ stray_of (at ds d) (drop (suc d) ds) e

    pub rest_end : length ds ≤ d → rest (t - d) (drop d ds) ≡ true
    unfolding all
    rest_end h = rw (drop_of_length-le ds h, drop-nil (t - d))

pub all_cong : (f g : LentDesk → Bool) → ((x : LentDesk) → f x ≡ g x) → (ds : List LentDesk) → all f ds ≡ all g ds
unfolding all
all_cong f g h [] = refl
all_cong f g h (x ∷ xs) = ap₂ ◌&&◌ (h x) (all_cong f g h xs)
