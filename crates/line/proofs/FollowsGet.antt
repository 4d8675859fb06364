-- The line follows the book: get. Where the line's reach stops, the book's turn is the first from K on in which a row
-- waits, or P; and the reading place there is the first waiting row's. The turns that were passed had all of their rows
-- gone, so that no front moves but that of the turn read, and there by the one row that is taken.
use Rattle.std.proofs.Common.{◌≡◌, ℕ, zero, suc, ◌+◌, ◌-◌, ◌<◌, ◌≤◌, Bool, not, T, eqb, ltb, ◌≢◌, List, length, sym, refl, ap, ◌∙◌, subst, le_refl, arith, eqb→eq, ltb→lt, nltb→le, lt-ltb, le-ltb}
use Rattle.std.proofs.Math.Bool.{and-false}
use Rattle.words.specs.declared.Answer.TheVariants.{Got}
use Rattle.book.specs.Sizes.{Size}
use Rattle.book.specs.Book.{Row, Book, row_at, row_of, mark_gone, written, first, waits, read_turn}
use Rattle.book.specs.Book as B
use Rattle.book.proofs.Choice.{by_test, by_test₂, cases, choose_same, T→true, not→false, neq_test, eq→eqb}
use Rattle.book.proofs.Rows.{first_fits, first_in, read_from_lem, read_to, mark_length, mark_label}
use Rattle.line.specs.Line.{Line, Spot, size_of, with_head, get_at, reach, read_at, get_step, size_in, here}
use Rattle.line.specs.Agrees.{front, Agrees}
use Rattle.line.proofs.Onward.{moves_by}
use Rattle.line.proofs.Front.{Matches, Follows, front_below, front_here, front_above, front_past, front_is, mark_front}
use Rattle.line.proofs.Front.{below, near, put_turn_lem, written_full, front_le, first_front, first_above, waits_same}

-- no row waits in a turn that a get passes
read_skips : (z : Size) (n : ℕ) (rs : List Row) (t u : ℕ) → t ≤ u → u < read_turn z n rs t → T (not (waits z rs u))
unfolding read_turn
read_skips z zero rs t u h = λ i. absurd (omega arith)
read_skips z (suc n) rs t u h =
    by_test (λ r. u < r → T (not (waits z rs u))) (waits z rs t) (λ _ i. absurd (omega arith))
    (λ w i. cases (eqb t u)
    (λ s. subst (λ (v : ℕ). T (not (waits z rs v))) (eqb→eq t u s) w)
    (λ s. let d = neq_test t u s in read_skips z n rs (suc t) u (omega arith) i))

module _ (l : Line) (b : Book) (g : Agrees (size_of l.head) l b) where
  abbrev p : ℕ
  p = l.head.p

  -- ---- both read at one spot

  abbrev place : ℕ → ℕ
  place t = first (size_in l) b.rows t

  abbrev waiting : ℕ → Bool
  waiting t = waits (size_in l) b.rows t

  abbrev spot : ℕ → Spot
  spot t = record { turn = t; place = place t }

  -- below P, a turn in which no row waits is read to its end
  ends : (t : ℕ) → t < p → T (not (waiting t)) → place t ≡ l.head.ne
  unfolding waits
  ends t h w =
      let e = first_front l b g t (omega arith) in
      let f = written_full l b g t h in
      omega (arith, front_le l b g t (omega arith), nltb→le (place t) (written (size_in l) b.rows t) w)

  reach_same : (n m t : ℕ) → t + m ≡ p → p ≤ t + n → l.head.k ≤ t → reach (size_in l) n l.table p (spot t) ≡ spot (read_turn (size_in l) m b.rows t)
  unfolding reach read_turn
  reach_same zero zero t e h c = refl
  reach_same zero (suc m) t e h c = absurd (omega arith)
  reach_same (suc n) zero t e h c =
      rw (moves_by (size_in l) p (here l t) (spot t), le-ltb t p (omega arith), and-false (eqb (place t) l.head.ne)) (choose_same (ltb (place t) (here l t).written) (spot t))
  reach_same (suc n) (suc m) t e h c =
      rw (moves_by (size_in l) p (here l t) (spot t), waits_same l b g t (near l b g t c (omega arith)))
      (cases (waiting t)
      (λ w. rw (T→true (waiting t) w))
      (λ w. rw (
        not→false (waiting t) w,
        T→true (eqb (place t) l.head.ne) (eq→eqb (place t) l.head.ne (ends t (omega arith) w)),
        lt-ltb t p (omega arith),
        ← first_above l b g (suc t) (omega arith) (omega arith),
      )
      (reach_same n m (suc t) (omega arith) (omega arith) (omega arith))))

  -- ---- the owner moves on to turn r, past turns in which no row waits, and the reading place is then n

  module _ (r : ℕ) (from : l.head.k ≤ r) (to : r ≤ p) (skips : (u : ℕ) → l.head.k ≤ u → u < r → T (not (waiting u))) where
    abbrev moved : ℕ → Line
    moved n = with_head l (get_at l.head (record { turn = r; place = n }))

    front_read : (n : ℕ) → front (size_in l) (moved n) r ≡ n
    front_read n = front_here (size_in l) (moved n) r refl

    front_moved : (n u : ℕ) → u ≢ r → front (size_in l) (moved n) u ≡ front (size_in l) l u
    front_moved n u h =
        front_is (size_in l) (moved n) u (front (size_in l) l u)
        (λ s. cases (ltb u l.head.k)
        (λ i. sym (front_below (size_in l) l u (ltb→lt u l.head.k i)))
        (λ i. sym (ends u (omega arith) (skips u (nltb→le u l.head.k i) s)) ∙ first_front l b g u (omega arith)))
        (λ s. absurd (h s))
        (λ s i. sym (front_above (size_in l) l u (omega arith) i))
        (λ s i. sym (front_past (size_in l) l u (omega arith) i))

    -- what is left to say is the rows' marks
    moved_matches : (n : ℕ) (rs : List Row) → length rs ≡ length b.rows → ((m : ℕ) → (row_at rs m).label ≡ (row_at b.rows m).label)
        → ((u q : ℕ) → q < l.head.ne → (row_at rs (row_of (size_in l) u q)).gone ≡ ltb q (front (size_in l) (moved n) u))
        → Matches (size_in l) (moved n) (record { rows = rs; k = r; desks = b.desks })
    moved_matches n rs many label marks = record {
      turn = refl;
      desks = g.desks;
      rows = many ∙ g.rows;
      labels = λ s low high i. g.labels s low high i ∙ sym (label (row_of (size_in l) s.turn s.place));
      marks = marks;
      looks = λ d s e h. g.looks d s e (omega arith);
    }

    -- a get that finds nothing
    empty_marks : (u q : ℕ) → q < l.head.ne → (row_at b.rows (row_of (size_in l) u q)).gone ≡ ltb q (front (size_in l) (moved (place r)) u)
    empty_marks u q h =
        g.marks u q h ∙ ap (ltb q) (sym (cases (eqb u r)
        (λ s. let e = eqb→eq u r s in front_here (size_in l) (moved (place r)) u e ∙ rw e (first_front l b g r to))
        (λ s. front_moved (place r) u (neq_test u r s))))

    -- a get that takes the first waiting row
    taken_marks : T (waiting r) → (u q : ℕ) → q < l.head.ne
        → (row_at (mark_gone b.rows (row_of (size_in l) r (place r))) (row_of (size_in l) u q)).gone ≡ ltb q (front (size_in l) (moved (suc (place r))) u)
    taken_marks w =
        mark_front (size_in l) b.rows (front (size_in l) l) (front (size_in l) (moved (suc (place r)))) r (place r) (first_fits (size_in l) b.rows r w) (first_in (size_in l) b.rows r w)
        (sym (first_front l b g r to)) (front_read (suc (place r))) (front_moved (suc (place r))) g.marks

    read_follows : Follows (size_in l) (read_at (size_in l) l (spot r)) (B.get_at (size_in l) b r)
    unfolding read_at B.get_at
    read_follows =
        let w = near l b g r from to in
        let e = waits_same l b g r w in
        by_test₂ (Follows (size_in l)) (ltb (place r) (here l r).written) (waiting r) e
        (λ t. let n = row_of (size_in l) r (place r) in let s = subst T e t in record {
          same = ap Got (g.labels (spot r) w.low w.high (ltb→lt (place r) (here l r).written t));
          matches = moved_matches (suc (place r)) (mark_gone b.rows n) (mark_length b.rows n)
              (λ m. mark_label b.rows n m (first_in (size_in l) b.rows r s)) (taken_marks s);
        })
        (λ _. record { same = refl; matches = moved_matches (place r) b.rows refl (λ m. refl) empty_marks })

  pub get_follows : Follows (size_in l) (get_step (size_in l) l) (B.get_step (size_in l) b)
  unfolding get_step B.get_step B.get_at
  get_follows =
      let n = p - l.head.k in
      let low = below l b g in
      let start : l.head.reading ≡ place l.head.k = sym (first_front l b g l.head.k low ∙ front_here (size_in l) l l.head.k refl) in
      let line : reach (size_in l) (l.head.nb - 1) l.table p (record { turn = l.head.k; place = l.head.reading }) ≡ spot (read_turn (size_in l) n b.rows l.head.k) =
      ap (λ (q : ℕ). reach (size_in l) (l.head.nb - 1) l.table p (record { turn = l.head.k; place = q })) start
      ∙ reach_same (l.head.nb - 1) n l.head.k (omega arith) (omega (arith, g.lawful.sound.one.near)) (le_refl l.head.k) in
      rw (line, put_turn_lem l b g, g.turn)
      (read_follows (read_turn (size_in l) n b.rows l.head.k) (read_from_lem (size_in l) n b.rows l.head.k) (omega (arith, read_to (size_in l) n b.rows l.head.k)) (λ u. read_skips (size_in l) n b.rows l.head.k u))
