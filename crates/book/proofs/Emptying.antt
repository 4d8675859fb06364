-- The owner gets until EMPTY. A get hands over a row that waits, or none waits at all: it moves on from a turn only where no row
-- of it waits, and comes to turn P at last. So as many gets as rows wait, or more, and one more, leave none, with K at P.
use Rattle.std.proofs.Common.{◌≡◌, ℕ, zero, suc, ◌+◌, ◌-◌, ◌*◌, ◌/◌, ◌<◌, ◌≤◌, Bool, true, false, not, T, ltb, ◌⊎◌, List, [], ◌∷◌, ◌++◌, length, replicate, if◌then◌else◌, refl, ap, ◌∙◌, inl, inr, ⊎_elim, le_of_suc-le-suc, mul-le-mul_right, div-lt_iff_lt-mul, div-mul-le_self, arith, ltb→lt, nltb→le}
use Rattle.std.proofs.Math.Nat.{lt-div-mul-add}
use Rattle.words.specs.declared.Answer.{Answer}
use Rattle.words.specs.declared.Answer.TheVariants.{Refused}
use Rattle.words.specs.declared.Refusal.TheVariants.{Empty}
use Rattle.book.specs.Total.{total}
use Rattle.book.specs.Sizes.{Size}
use Rattle.book.specs.Steps.{decode}
use Rattle.book.specs.Book.{Row, Book, Outcome, row_at, mark_gone, put_turn, row_of, first, waits, get_at, get_step, does, step, answers, after}
use Rattle.book.specs.Counts.{waits_by, waiting}
use Rattle.book.specs.Messages.{get}
use Rattle.book.proofs.Choice.{by_test, cases, T→true, not→false}
use Rattle.book.proofs.Total.{total_set, total_le}
use Rattle.book.proofs.Turns.{div_mono}
use Rattle.book.proofs.Rows.{first_waits, first_in}
use Rattle.book.proofs.Fronts.{Gone, Fronts, none_waits, read_last, reads, reads_past, step_grows}

-- ---- how many rows wait

-- none waits exactly if all rows are gone
pub none_left : (rs : List Row) → ((n : ℕ) → n < length rs → Gone rs n) → total waits_by rs ≡ 0
unfolding total
none_left [] h = refl
none_left (r ∷ rs) h = let g = h 0 (omega arith) in rw g (let i = none_left rs (λ n l. h (suc n) (omega arith)) in omega arith)

pub all_gone : (rs : List Row) → total waits_by rs ≡ 0 → (n : ℕ) → n < length rs → Gone rs n
unfolding total
all_gone [] h n l = absurd (omega arith)
all_gone (r ∷ rs) h zero l = cases r.gone (λ t. T→true r.gone t) (λ t. absurd (let g = not→false r.gone t in let i : 1 + total waits_by rs ≡ 0 = rw g at h in omega arith))
all_gone (r ∷ rs) h (suc n) l = all_gone rs (omega arith) n (le_of_suc-le-suc l)

one_at_most : (r : Row) → waits_by r ≤ 1
one_at_most r = by_test {A = ℕ} (λ m. m ≤ 1) r.gone {x = 0} {y = 1} (λ _. omega arith) (λ _. omega arith)

-- where the first m rows are gone, at most the others wait
waits_after : (rs : List Row) (m : ℕ) → m ≤ length rs → ((n : ℕ) → n < m → Gone rs n) → total waits_by rs + m ≤ length rs
unfolding total
waits_after [] m l h = omega arith
waits_after (r ∷ rs) zero l h = omega (arith, one_at_most r, total_le waits_by one_at_most rs)
waits_after (r ∷ rs) (suc m) l h = let g = h 0 (omega arith) in rw g (let i = waits_after rs m (le_of_suc-le-suc l) (λ n q. h (suc n) (omega arith)) in omega arith)

module _ (z : Size) (pos : 0 < z.ne) where
  -- at most NB × NE
  pub waiting_most : (b : Book) → Fronts z b → 0 < z.nb → waiting b ≤ z.nb * z.ne
  unfolding put_turn
  waiting_most b f nb =
      let n = length b.rows in
      let p = (n - 1) / z.ne in
      let low = div-mul-le_self (n - 1) z.ne in
      let first_rows = waits_after b.rows (b.k * z.ne) (omega (arith, mul-le-mul_right z.ne f.reached))
      (λ m h. f.past m ((div-lt_iff_lt-mul {k = z.ne} {x = m} {y = b.k} pos).1 h)) in
      let near : p + 1 ≤ b.k + z.nb = omega (arith, f.near) in
      omega (arith, mul-le-mul_right z.ne near, lt-div-mul-add {a = n - 1} pos)

  -- ---- one get

  -- a row is handed over, and one less waits
  record OneLess (b : Book) (o : Outcome) : Type 0 where
    less : waiting o.book + 1 ≡ waiting b
    desks : o.book.desks ≡ b.desks

  -- EMPTY: none waits, and K is P
  record NoneLeft (b : Book) (o : Outcome) : Type 0 where
    none : waiting b ≡ 0
    answer : o.answer ≡ Refused Empty 0
    rows : o.book.rows ≡ b.rows
    read : o.book.k ≡ put_turn z b.rows
    desks : o.book.desks ≡ b.desks

  module _ (b : Book) (f : Fronts z b) where
    reads_p : T (not (waits z b.rows (reads z b))) → reads z b ≡ put_turn z b.rows
    reads_p w = omega (arith, f.reached, read_last z (put_turn z b.rows - b.k) b.rows b.k w)

    -- turn P is read to its end, and those below it are
    read_all : T (not (waits z b.rows (reads z b))) → (n : ℕ) → n < length b.rows → Gone b.rows n
    unfolding put_turn
    read_all w n h =
        cases (ltb (n / z.ne) (reads z b)) (λ t. reads_past z b f n (ltb→lt (n / z.ne) (reads z b) t))
        (λ t. none_waits z b.rows (reads z b) w pos n
        (omega (arith, reads_p w, nltb→le (n / z.ne) (reads z b) t, div_mono {a = n} {b = length b.rows - 1} z.ne (omega arith))) h)

    get_out : OneLess b (get_step z b) ⊎ NoneLeft b (get_step z b)
    unfolding get_step get_at mark_gone
    get_out =
        let t = reads z b in
        let n = row_of z t (first z b.rows t) in
        by_test (λ (o : Outcome). OneLess b o ⊎ NoneLeft b o) (waits z b.rows t)
        (λ w. inl (record {
          less =
              let now = total_set waits_by b.rows n (record { label = (row_at b.rows n).label; gone = true }) (record { label = 0; gone = false }) (first_in z b.rows t w) in
              omega (arith, ap {B = ℕ} (λ (g : Bool). if g then 0 else 1) (first_waits z b.rows t w));
          desks = refl;
        }))
        (λ w. inr (record { none = none_left b.rows (read_all w); answer = refl; rows = refl; read = reads_p w; desks = refl }))

    step_out : OneLess b (step z b get) ⊎ NoneLeft b (step z b get)
    unfolding step does decode
    step_out = get_out

  -- ---- gets until EMPTY

  pub record Emptied (b e : Book) (l : List Answer) : Type 0 where
    pub none : waiting e ≡ 0
    pub last : (m : List Answer) × (l ≡ m ++ (Refused Empty 0 ∷ []))
    pub read : e.k ≡ put_turn z e.rows
    pub desks : e.desks ≡ b.desks

  pub emptied : (w : ℕ) (b : Book) → Fronts z b → waiting b ≤ w → Emptied b (after z b (replicate (suc w) get)) (answers z b (replicate (suc w) get))
  unfolding after answers
  emptied zero b f h =
      ⊎_elim {C = Emptied b (after z b (replicate 1 get)) (answers z b (replicate 1 get))} (λ g. absurd (omega (arith, g.less)))
      (λ e. record {
        none = rw e.rows e.none;
        last = ([], ap (λ (a : Answer). a ∷ []) e.answer);
        read = rw e.rows e.read;
        desks = e.desks;
      })
      (step_out b f)
  emptied (suc w) b f h =
      let c = (step z b get).book in
      let on : waiting c ≤ w → c.desks ≡ b.desks → Emptied b (after z b (replicate (suc (suc w)) get)) (answers z b (replicate (suc (suc w)) get)) = λ l d.
      let r = emptied w c (step_grows z b get f).fronts l in
      record {
        none = r.none;
        last = ((step z b get).answer ∷ r.last.0, ap (λ (l : List Answer). (step z b get).answer ∷ l) r.last.1);
        read = r.read;
        desks = r.desks ∙ d;
      } in
      ⊎_elim (λ g. on (omega (arith, g.less)) g.desks) (λ e. on (rw e.rows (omega (arith, e.none))) e.desks) (step_out b f)
