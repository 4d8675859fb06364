-- The number that a word says, digit by digit.
use Rattle.std.proofs.Common.{◌≡◌, refl, sym, ap, subst, ◌∙◌, Bool, true, false, not, ◌&&◌, List, [], ◌∷◌, ℕ, suc, ◌+◌, ◌-◌, ◌*◌, ◌≤◌, ◌<◌, length, get_or, drop, add-one, drop-cons, arith, T, leb, Option, Some, None, leb→le, le→leb, drop_of_length-le}
use Rattle.book.specs.Total.{all}
use Rattle.book.proofs.Choice.{cases, choose_true, choose_false, and_first, and_second, and_in}
use Rattle.printing.specs.Decimal.{read_from, is_digit}
use Rattle.text.specs.Pieces.{is_none, greatest, is_number, number}

number_is : (w : List ℕ) → T (is_number w) → Some (read_from 0 w) ≡ number w
unfolding number
number_is w t = sym (choose_true (is_number w) _ _ t)

pub number_not : (w : List ℕ) → (T (is_number w) → ⊥) → ◌≡◌ {A = Option ℕ} None (number w)
unfolding number
number_not w n = cases (is_number w) (λ t. absurd (n t)) (λ t. sym (choose_false (is_number w) _ _ t))

abbrev inside : List ℕ → Bool
inside w = all is_digit w && leb (read_from 0 w) greatest

module _ (w : List ℕ) where
  number_some : T (is_number w) → T (not (is_none w))
  unfolding is_number
  number_some t = and_first (not (is_none w)) (inside w) t

  number_digits : T (is_number w) → T (all is_digit w)
  unfolding is_number
  number_digits t = and_first (all is_digit w) (leb (read_from 0 w) greatest) (and_second (not (is_none w)) (inside w) t)

  pub number_most_lem : T (is_number w) → read_from 0 w ≤ greatest
  unfolding is_number
  number_most_lem t = leb→le (read_from 0 w) greatest (and_second (all is_digit w) (leb (read_from 0 w) greatest) (and_second (not (is_none w)) (inside w) t))

  number_in : T (not (is_none w)) → T (all is_digit w) → read_from 0 w ≤ greatest → T (is_number w)
  unfolding is_number
  number_in a b h = and_in (not (is_none w)) (inside w) a (and_in (all is_digit w) (leb (read_from 0 w) greatest) b (le→leb (read_from 0 w) greatest h))

pub number_empty : (w : List ℕ) → length w ≡ 0 → ◌≡◌ {A = Option ℕ} None (number w)
number_empty [] h = number_not [] (λ t. number_some [] t)
number_empty (b ∷ w) h = absurd (omega arith)

read_least : (n : ℕ) (bs : List ℕ) → n ≤ read_from n bs
read_least n [] = omega arith
read_least n (b ∷ bs) = let h = read_least (n * 10 + (b - 48)) bs in omega arith

some_is : (w : List ℕ) → 1 ≤ length w → T (not (is_none w))
some_is [] h = absurd (omega arith)
some_is (b ∷ w) h = tt

-- the digits from place i on, behind n, say what the word says
pub record Reading (w : List ℕ) (n i : ℕ) : Type 0 where
  pub some : 1 ≤ length w
  pub small : n ≤ greatest
  pub reads : read_from n (drop i w) ≡ read_from 0 w
  pub digits : all is_digit (drop i w) ≡ all is_digit w

module _ (w : List ℕ) (n i : ℕ) (r : Reading w n i) where
  pub reading_end : length w ≤ i → Some n ≡ number w
  unfolding all
  reading_end h =
      let e = drop_of_length-le w h in
      let f : n ≡ read_from 0 w = sym (ap (read_from n) e) ∙ r.reads in
      let d : T (all is_digit w) = subst T (sym (ap (all is_digit) e) ∙ r.digits) tt in
      let s = r.small in
      ap Some f ∙ number_is w (number_in w (some_is w r.some) d (omega arith))

  module _ (h : i < length w) where
    abbrev b : ℕ
    b = get_or w i 0

    parts : all is_digit w ≡ (is_digit b && all is_digit (drop (suc i) w))
    unfolding all
    parts = sym r.digits ∙ ap (all is_digit) (drop-cons w i 0 h)

    pub reading_not : is_digit b ≡ false → ◌≡◌ {A = Option ℕ} None (number w)
    reading_not e = number_not w (λ t. subst T e (and_first (is_digit b) (all is_digit (drop (suc i) w)) (subst T parts (number_digits w t))))

    more : read_from (n * 10 + (b - 48)) (drop (suc i) w) ≡ read_from 0 w
    more = sym (ap (read_from n) (drop-cons w i 0 h)) ∙ r.reads

    pub reading_large : greatest < n * 10 + (b - 48) → ◌≡◌ {A = Option ℕ} None (number w)
    reading_large g = let l = read_least (n * 10 + (b - 48)) (drop (suc i) w) in number_not w (λ t. omega (arith, number_most_lem w t, more))

    pub reading_more : is_digit b ≡ true → n * 10 + (b - 48) ≤ greatest → Reading w (n * 10 + (b - 48)) (i + 1)
    reading_more e g = record {
      some = r.some;
      small = g;
      reads = rw (add-one i) more;
      digits = rw (add-one i) (sym (parts ∙ rw e refl));
    }
