-- Laws of the book's rows: the first waiting row of a turn, one more row, a mark, the turn that a get reads.
use Rattle.std.proofs.Common.{◌≡◌, ℕ, zero, suc, ◌+◌, ◌-◌, ◌*◌, ◌/◌, ◌<◌, ◌≤◌, min, true, false, T, eqb, ltb, ◌≢◌, List, [], ◌∷◌, ◌++◌, length, drop, refl, ap, ◌∙◌, suc-le-suc, le_of_suc-le-suc, not-suc-le-zero, arith, eqb→eq, ltb→lt, length-drop, length-set, length-take, get_or-drop, get_or-set_other, get_or-take, get_or-set_same}
use Rattle.std.proofs.Math.Arith.{digits_div}
use Rattle.std.proofs.Math.Dec.{leb-suc-suc, leb-zero}
use Rattle.book.specs.Sizes.{Size}
use Rattle.book.specs.Book.{Row, row_at, mark_gone, gone_before, row_of, rows_of, written, first, waits, read_turn}
use Rattle.book.proofs.Choice.{by_test, cases, not→false, neq_test}

-- ---- the first waiting row

pub gone_before_waits : (rs : List Row) → gone_before rs < length rs → (row_at rs (gone_before rs)).gone ≡ false
unfolding gone_before
gone_before_waits [] = λ h. absurd (not-suc-le-zero h)
gone_before_waits (r ∷ rs) =
    by_test (λ m. m < suc (length rs) → (row_at (r ∷ rs) m).gone ≡ false) r.gone (λ t h. gone_before_waits rs (le_of_suc-le-suc h)) (λ t h. not→false r.gone t)

-- where the first f rows are gone and no other, the first waiting one stands at f
pub gone_before_prefix : (rs : List Row) (f : ℕ) → ((p : ℕ) → p < length rs → (row_at rs p).gone ≡ ltb p f) → f ≤ length rs → gone_before rs ≡ f
unfolding gone_before
gone_before_prefix [] f m h = omega arith
gone_before_prefix (r ∷ rs) zero m h = rw (m 0 (omega arith)) refl
gone_before_prefix (r ∷ rs) (suc f) m h =
    rw (m 0 (omega arith), leb-suc-suc 0 f, leb-zero f)
    (ap suc (gone_before_prefix rs f (λ p q. m (suc p) (suc-le-suc q) ∙ leb-suc-suc (suc p) f) (le_of_suc-le-suc h)))

-- ---- the rows of a turn

module _ (z : Size) where
  pub written_is : (rs : List Row) (t : ℕ) → written z rs t ≡ min z.ne (length rs - t * z.ne)
  unfolding written rows_of
  written_is rs t = rw (length-take, length-drop) refl

  -- place p of turn t is row `row_of t p`, which belongs to turn t
  pub row_turn : (t p : ℕ) → p < z.ne → row_of z t p / z.ne ≡ t
  row_turn t p h = digits_div t h

  pub row_place : (rs : List Row) (t p : ℕ) → p < z.ne → row_at (rows_of z rs t) p ≡ row_at rs (row_of z t p)
  unfolding rows_of
  row_place rs t p h = get_or-take z.ne (drop (t * z.ne) rs) p _ h ∙ get_or-drop (t * z.ne) rs p _

  module _ (rs : List Row) (t : ℕ) (w : T (waits z rs t)) where
    first_written : first z rs t < written z rs t
    unfolding waits
    first_written = ltb→lt (first z rs t) (written z rs t) w

    pub first_fits : first z rs t < z.ne
    first_fits = omega (arith, first_written, written_is rs t)

    pub first_waits : (row_at rs (row_of z t (first z rs t))).gone ≡ false
    unfolding first written
    first_waits = rw (← (row_place rs t (first z rs t) first_fits)) (gone_before_waits (rows_of z rs t) first_written)

    pub first_in : row_of z t (first z rs t) < length rs
    first_in = omega (arith, first_written, written_is rs t)

  -- ---- the turn that a get reads

  pub read_from_lem : (n : ℕ) (rs : List Row) (k : ℕ) → k ≤ read_turn z n rs k
  unfolding read_turn
  read_from_lem zero rs k = omega arith
  read_from_lem (suc n) rs k = by_test (λ u. k ≤ u) (waits z rs k) (λ _. omega arith) (λ _. let h = read_from_lem n rs (suc k) in omega arith)

  pub read_to : (n : ℕ) (rs : List Row) (k : ℕ) → read_turn z n rs k ≤ k + n
  unfolding read_turn
  read_to zero rs k = omega arith
  read_to (suc n) rs k = by_test (λ u. u ≤ k + suc n) (waits z rs k) (λ _. omega arith) (λ _. let h = read_to n rs (suc k) in omega arith)

-- ---- one more waiting row: every mark reads as before

pub row_append : (rs : List Row) (a n : ℕ) → (row_at (rs ++ (record { label = a; gone = false } ∷ [])) n).gone ≡ (row_at rs n).gone
row_append [] a zero = refl
row_append [] a (suc n) = refl
row_append (r ∷ rs) a zero = refl
row_append (r ∷ rs) a (suc n) = row_append rs a n

-- ---- a mark changes one row, and no label

pub mark_length : (rs : List Row) (m : ℕ) → length (mark_gone rs m) ≡ length rs
unfolding mark_gone
mark_length rs m = length-set rs m _

pub mark_other : (rs : List Row) (m n : ℕ) → n ≢ m → row_at (mark_gone rs m) n ≡ row_at rs n
unfolding mark_gone
mark_other rs m n h = get_or-set_other rs m n _ _ h

pub mark_same : (rs : List Row) (m : ℕ) → m < length rs → (row_at (mark_gone rs m) m).gone ≡ true
unfolding mark_gone
mark_same rs m h = ap (λ (r : Row). r.gone) (get_or-set_same rs m _ _ h)

pub mark_label : (rs : List Row) (m n : ℕ) → m < length rs → (row_at (mark_gone rs m) n).label ≡ (row_at rs n).label
unfolding mark_gone
mark_label rs m n h =
    cases (eqb n m)
    (λ t. rw (eqb→eq n m t) (ap (λ (r : Row). r.label) (get_or-set_same rs m _ _ h)))
    (λ t. ap (λ (r : Row). r.label) (mark_other rs m n (neq_test n m t)))
