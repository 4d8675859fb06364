-- What holds of the bytes that are read: a header is eight bytes, and the steps that are left behind the first i are
-- the next one and those behind it.
use Rattle.std.proofs.Common.{◌≡◌, ℕ, zero, suc, ◌+◌, ◌-◌, ◌*◌, ◌%◌, ◌<◌, ◌≤◌, Bool, true, false, T, leb, List, [], ◌∷◌, length, if◌then◌else◌, Some, None, sym, refl, ap, ◌∙◌, arith, leb→le}
use Rattle.std.proofs.Math.Nat.{sub-zero}
use borrow.Author.Tests.{eqb-false, not-true}
use Rattle.book.specs.Choice.{◌≡ᵇ◌}
use Rattle.book.specs.declared.Size.{Size}
use Rattle.book.specs.Steps.{Step}
use Rattle.book.proofs.Choice.{and_first}
use Rattle.schedule.specs.Bytes.{limit, header_bytes, step_bytes, most_steps, is_header, header, size_in, step_at, steps_from, whole_steps, steps_of, is_cut}

told : (h : Bool) (x z : Size) → (if h then Some x else None) ≡ Some z → (h ≡ true) × (z ≡ x)
told true x z e = (refl, cc)
told false x z e = absurd (cc)

module _ (bs : List ℕ) where
  pub header_long : (h : Bool) → h ≡ is_header bs → h ≡ true → header_bytes ≤ length bs
  unfolding is_header
  header_long h is t = let all : T (is_header bs) = rw (sym is ∙ t) tt in leb→le header_bytes (length bs) (and_first (leb header_bytes (length bs)) _ all)

  -- a header that is read
  module _ (z : Size) (e : header bs ≡ Some z) where
    pub headed_size : z ≡ size_in bs
    unfolding header
    headed_size = (told (is_header bs) (size_in bs) z e).1

    pub headed_long : header_bytes ≤ length bs
    unfolding header
    headed_long = header_long (is_header bs) refl (told (is_header bs) (size_in bs) z e).0

  -- ---- the steps one by one

  pub steps_length : (n i : ℕ) → length (steps_from bs n i) ≡ n
  unfolding steps_from
  steps_length zero i = refl
  steps_length (suc n) i = ap suc (steps_length n (i + step_bytes))

  -- where step i + 1 stands
  abbrev pub place_of : ℕ → ℕ
  place_of i = header_bytes + step_bytes * i

  -- the steps behind the first i
  pub steps_behind : ℕ → List Step
  steps_behind i = steps_from bs (whole_steps bs - i) (place_of i)

  pub behind_none : steps_behind 0 ≡ steps_of bs
  unfolding steps_behind steps_of
  behind_none = rw (sub-zero (whole_steps bs)) refl

  pub behind_next : (i : ℕ) → i < whole_steps bs → steps_behind i ≡ step_at bs (place_of i) ∷ steps_behind (i + 1)
  unfolding steps_behind steps_from
  behind_next i h =
      let e : whole_steps bs - i ≡ suc (whole_steps bs - (i + 1)) = omega arith in
      let p : place_of i + step_bytes ≡ place_of (i + 1) = omega arith in
      rw (e, p) refl

  pub behind_all : (i : ℕ) → i ≡ whole_steps bs → steps_behind i ≡ []
  unfolding steps_behind steps_from
  behind_all i e = let z : whole_steps bs - i ≡ 0 = omega arith in rw z refl

  -- ---- how many there are

  -- and fewer than the most where one more is cut short
  pub steps_few : length bs ≤ limit → whole_steps bs ≤ most_steps
  steps_few h = omega arith

  pub cut_few : length bs ≤ limit → (b : Bool) → b ≡ is_cut bs → b ≡ true → whole_steps bs < most_steps
  cut_few h b c t =
      let over = (length bs - header_bytes) % step_bytes in
      let some : over ≡ 0 → ⊥ = eqb-false over 0 (not-true (over ≡ᵇ 0) (sym c ∙ t)) in
      omega arith
