-- A number that is held to the highest one means what the number means: a code above 79 is not listed, and a size above
-- 64 does not fit.
use Rattle.std.proofs.Common.{◌≡◌, ℕ, ◌≤◌, ◌<◌, min, T, leb, refl, sym, ap, ◌∙◌, arith, leb→le, le-leb, inl, inr}
use Rattle.std.proofs.Math.Dec.{nleb→lt}
use Rattle.std.proofs.lemmas.Bool.{lt-leb, cases_lt}
use Rattle.book.specs.Sizes.{Size, fits}
use Rattle.book.specs.Steps.{Step, decode}
use Rattle.book.proofs.Choice.{cases, not→false}
use Rattle.line.specs.Line.{Line}
use Rattle.line.specs.Check.{fit}
use Rattle.line.specs.Calls.{step, opens}
use Rattle.line.proofs.Cells.{valid}
use Rattle.engine.proofs.Codes.{high_at}
use Rattle.lbq.specs.Narrow.{at_most, highest_code, highest_size, narrow_code, narrow_size}

kept : (high n : ℕ) → n ≤ high → n ≡ at_most high n
unfolding at_most
kept high n h = rw (le-leb n high h) refl

cut : (high n : ℕ) → high < n → high ≡ at_most high n
unfolding at_most
cut high n h = rw (lt-leb n high h) refl

-- the code takes the smaller of the two
pub min_is : (high n : ℕ) → min n high ≡ at_most high n
unfolding at_most
min_is high n = elim (cases_lt high n) [ inl h ↦ rw (lt-leb n high h) (omega (arith, h)) | inr h ↦ rw (le-leb n high h) (omega (arith, h)) ]

-- ---- a code, held to a number that is none

module _ (a b : ℕ) where
  abbrev coded : ℕ → Step
  coded c = record { code = c; a = a; b = b }

  decodes : (high c : ℕ) → 80 ≤ high → decode (coded (at_most high c)) ≡ decode (coded c)
  decodes high c none =
      cases (leb c high) (λ t. ap (λ (n : ℕ). decode (coded n)) (sym (kept high c (leb→le c high t)))) (λ t.
      let h = nleb→lt c high t in
      ap (λ (n : ℕ). decode (coded n)) (sym (cut high c h)) ∙ sym (high_at a b high none) ∙ high_at a b c (omega (arith, h, none)))

  pub code_narrowed : (l : Line) (c : ℕ) → step l (coded (narrow_code c)) ≡ step l (coded c)
  unfolding step
  code_narrowed l c = rw (decodes highest_code c (omega arith)) refl

-- ---- sizes, each held to a number that does not fit

module _ (high : ℕ) where
  abbrev all_held : Size → Size
  all_held z = record { nb = at_most high z.nb; ne = at_most high z.ne; t = at_most high z.t }

  module _ (large : 65 ≤ high) where
    small : (n : ℕ) → at_most high n ≤ 64 → n ≤ high
    small n h = cases (leb n high) (λ t. leb→le n high t) (λ t. let e = cut high n (nleb→lt n high t) in absurd (omega (arith, e, h, large)))

    -- such numbers are kept: those that fit, and those that fit once they are held
    module _ (z : Size) where
      same : z.nb ≤ high → z.ne ≤ high → z.t ≤ high → z ≡ all_held z
      same b e d = λ j. record { nb = kept high z.nb b j; ne = kept high z.ne e j; t = kept high z.t d j }

      same_fit : T (fits z) → z ≡ all_held z
      same_fit f = let v = valid z f in same (omega (arith, v.nb_most, large)) (omega (arith, v.ne_most, large)) (omega (arith, v.t_most, large))

      same_held : T (fits (all_held z)) → z ≡ all_held z
      same_held f = let v = valid (all_held z) f in same (small z.nb v.nb_most) (small z.ne v.ne_most) (small z.t (omega (arith, v.t_most)))

    opens_held : (l : Line) (z : Size) → opens l (all_held z) ≡ opens l z
    unfolding opens fit
    opens_held l z =
        cases (fits z) (λ t. ap (opens l) (sym (same_fit z t))) (λ t.
        cases (fits (all_held z)) (λ u. ap (opens l) (sym (same_held z u))) (λ u. rw (not→false (fits z) t, not→false (fits (all_held z)) u) refl))

abbrev pub narrowed : Size → Size
narrowed z = record { nb = narrow_size z.nb; ne = narrow_size z.ne; t = narrow_size z.t }

pub size_narrowed : (l : Line) (z : Size) → opens l (narrowed z) ≡ opens l z
size_narrowed l z = opens_held highest_size (omega arith) l z
