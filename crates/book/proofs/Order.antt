-- Order is kept. In a turn the rows gone are its first (proofs/Fronts.antt), so a row that waits stands after all that are gone.
-- A row that goes later waits now: so within one turn it is larger. And what a get hands over later is of this turn K or of a later one:
-- so it is larger too.
use Rattle.std.proofs.Common.{◌≡◌, ℕ, suc, ◌/◌, ◌<◌, ◌≤◌, Bool, false, not, ◌&&◌, T, eqb, ltb, List, [], ◌∷◌, ◌++◌, length, sym, ◌∙◌, zero-le, arith, eqb→eq, ltb→lt, nltb→le, true≢false, filter}
use Rattle.std.specs.List.{AllByRecursion as All}
use Rattle.std.proofs.lemmas.List.Elements.{filter-append}
use Rattle.book.specs.Choice.{◌≡ᵇ◌}
use Rattle.book.specs.Sizes.{Size}
use Rattle.book.specs.Steps.{Step, decode}
use Rattle.book.specs.Total.{up_from}
use Rattle.book.specs.Book.{Row, Book, Outcome, row_at, row_of, first, waits, get_at, get_step, does, step, opened}
use Rattle.book.specs.Order.{went_by, went_rows, got_rows, GetsInOrder, GoesInOrder}
use Rattle.book.proofs.Choice.{by_test, cases, T→true, not→false, and_first, and_second, neq_test}
use Rattle.book.proofs.Turns.{div_mono}
use Rattle.book.proofs.Rows.{row_turn, first_fits, first_waits, first_in, mark_same}
use Rattle.book.proofs.Fronts.{Gone, Fronts, Grows, reads, reads_low, step_grows, opened_fronts}
use Rattle.book.proofs.Rising.{RisesFrom, increasing, rises_from, rises_on, all_map, all_both, up_rises, filter_rise, filter_pass, filter_keep}

-- ---- waiting, and gone

abbrev Waits : List Row → ℕ → Type 0
Waits rs n = (row_at rs n).gone ≡ false

not_both : (rs : List Row) (n : ℕ) → Gone rs n → Waits rs n → ⊥
not_both rs n g w = true≢false (sym g ∙ w)

module _ (z : Size) where
  -- of two rows of one turn the one that waits stands after the one that is gone
  gone_first : (b : Book) → Fronts z b → (n m : ℕ) → Gone b.rows n → Waits b.rows m → m / z.ne ≡ n / z.ne → n < m
  gone_first b f n m g w e =
      cases (ltb n m) (λ t. ltb→lt n m t) (λ t. absurd (
      cases (eqb m n) (λ s. not_both b.rows n g (rw (← (eqb→eq m n s)) w))
      (λ s. let d = neq_test m n s in let h = nltb→le n m t in not_both b.rows m (f.prefix n g m (omega arith) e) w)))

  -- a row that waits in turn K or later stands after each that is gone in turn K
  after_got : (b : Book) → Fronts z b → (n m : ℕ) → Gone b.rows n → n / z.ne ≡ b.k → b.k ≤ m / z.ne → Waits b.rows m → n < m
  after_got b f n m g e h w =
      cases (ltb n m) (λ t. ltb→lt n m t) (λ t. let l = div_mono z.ne (nltb→le n m t) in gone_first b f n m g w (omega arith))

  -- what waits after a step waited before it
  waited : (b c : Book) → Grows z b c → (m : ℕ) → Waits c.rows m → Waits b.rows m
  waited b c g m w =
      cases (row_at b.rows m).gone (λ t. absurd (not_both c.rows m (g.gone m (T→true _ t)) w)) (λ t. not→false _ t)

  -- ---- within one turn

  abbrev of_turn : ℕ → ℕ → Bool
  of_turn t n = n / z.ne ≡ᵇ t

  record Goes (t : ℕ) (rs qs : List Row) (n : ℕ) : Type 0 where
    here : n / z.ne ≡ t
    waits_before : Waits rs n
    gone_after : Gone qs n

  went_by_lem : (t : ℕ) (rs qs : List Row) → All (Goes t rs qs) (filter (of_turn t) (went_by rs qs))
  unfolding went_by
  went_by_lem t rs qs =
      let goes : ℕ → Bool = λ n. not (row_at rs n).gone && (row_at qs n).gone in
      let l = up_from (length qs) 0 in
      all_both (λ n. T (of_turn t n)) (λ n. T (goes n)) (Goes t rs qs)
      (λ n o g. record {
        here = eqb→eq (n / z.ne) t o;
        waits_before = not→false (row_at rs n).gone (and_first (not (row_at rs n).gone) (row_at qs n).gone g);
        gone_after = T→true (row_at qs n).gone (and_second (not (row_at rs n).gone) (row_at qs n).gone g);
      })
      (filter (of_turn t) (filter goes l)) (filter_pass (of_turn t) (filter goes l)) (filter_keep (of_turn t) (λ n. T (goes n)) (filter goes l) (filter_pass goes l))

  went_rises : (rs qs : List Row) → RisesFrom 0 (went_by rs qs)
  unfolding went_by
  went_rises rs qs = filter_rise (λ n. not (row_at rs n).gone && (row_at qs n).gone) 0 (up_from (length qs) 0) (up_rises (length qs) 0)

  -- a bounds the rows of turn t that wait, and so those that will go
  run_went : (ss : List Step) (b : Book) → Fronts z b → (t a : ℕ) → ((m : ℕ) → m / z.ne ≡ t → Waits b.rows m → a ≤ m)
      → RisesFrom a (filter (of_turn t) (went_rows z b ss))
  unfolding went_rows
  run_went [] b f t a h = tt
  run_went (s ∷ ss) b f t a h =
      let c = (step z b s).book in
      let g = step_grows z b s f in
      let now = filter (of_turn t) (went_by b.rows c.rows) in
      let rest = filter (of_turn t) (went_rows z c ss) in
      let went = went_by_lem t b.rows c.rows in
      rw (filter-append (of_turn t) (went_by b.rows c.rows) (went_rows z c ss)) (rises_on a now rest
      (rises_from a 0 now (filter_rise (of_turn t) 0 (went_by b.rows c.rows) (went_rises b.rows c.rows)) (all_map _ (λ n. a ≤ n) (λ n w. h n w.here w.waits_before) now went))
      (all_map _ (λ n. RisesFrom (suc n) rest)
      (λ n w. run_went ss c g.fronts t (suc n) (λ m e v. gone_first c g.fronts n m w.gone_after v (e ∙ sym w.here))) now went)
      (run_went ss c g.fronts t a (λ m e v. h m e (waited b c g m v))))

  -- ---- what gets hand over

  pub record Gets (b c : Book) (n : ℕ) : Type 0 where
    pub from : b.k ≤ n / z.ne
    pub waits_before : Waits b.rows n
    pub gone_after : Gone c.rows n
    pub to : n / z.ne ≡ c.k

  abbrev pub GetsOf : Book → Outcome → Type 0
  GetsOf b o = All (Gets b o.book) o.left × RisesFrom 0 o.left

  get_gets : (b : Book) → GetsOf b (get_step z b)
  unfolding get_step get_at
  get_gets b =
      let t = reads z b in
      let n = row_of z t (first z b.rows t) in
      by_test (GetsOf b) (waits z b.rows t)
      (λ w. let is = row_turn z t (first z b.rows t) (first_fits z b.rows t w) in (
        (
          record {
            from = rw is (reads_low z b);
            waits_before = first_waits z b.rows t w;
            gone_after = mark_same b.rows n (first_in z b.rows t w);
            to = is;
          },
          tt,
        ),
        (zero-le, tt),
      ))
      (λ _. (tt, tt))

  pub step_gets : (b : Book) (s : Step) → T (s.code ≡ᵇ 1) → GetsOf b (step z b s)
  unfolding step does decode
  step_gets b s t = rw (eqb→eq s.code 1 t) (get_gets b)

  -- a bounds the rows that wait from turn K on, and so those that gets will hand over
  pub run_got : (ss : List Step) (b : Book) → Fronts z b → (a : ℕ) → ((m : ℕ) → b.k ≤ m / z.ne → Waits b.rows m → a ≤ m) → RisesFrom a (got_rows z b ss)
  unfolding got_rows
  run_got [] b f a h = tt
  run_got (s ∷ ss) b f a h =
      let c = (step z b s).book in
      let g = step_grows z b s f in
      let rest = got_rows z c ss in
      let later = run_got ss c g.fronts a (λ m e v. h m (omega (arith, g.onward)) (waited b c g m v)) in
      by_test (λ (l : List ℕ). RisesFrom a (l ++ rest)) (s.code ≡ᵇ 1)
      (λ t. let o = step_gets b s t in
      let now = (step z b s).left in
      rises_on a now rest
      (rises_from a 0 now o.1 (all_map _ (λ n. a ≤ n) (λ n w. h n w.from w.waits_before) now o.0))
      (all_map _ (λ n. RisesFrom (suc n) rest) (λ n w. run_got ss c g.fronts (suc n) (λ m e v. after_got c g.fronts n m w.gone_after w.to e v)) now o.0)
      later)
      (λ _. later)

pub goes_in_order : GoesInOrder
unfolding GoesInOrder
goes_in_order z ss t = increasing 0 (filter (of_turn z t) (went_rows z (opened z) ss)) (run_went z ss (opened z) (opened_fronts z) t 0 (λ m e w. zero-le))

pub gets_in_order : GetsInOrder
unfolding GetsInOrder
gets_in_order z ss = increasing 0 (got_rows z (opened z) ss) (run_got z ss (opened z) (opened_fronts z) 0 (λ m h w. zero-le))
