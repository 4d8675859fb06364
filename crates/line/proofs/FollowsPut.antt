-- The line follows the book: put and order. A put appends one row, and the line writes the label at the spot of that
-- row: the next place of turn P, or place 0 of turn P + 1. Both are one case: a label that goes to place q of turn t,
-- where turn t and place q are the end of the list. No front moves, since a new turn has none of its rows gone.
use Rattle.std.proofs.Common.{◌≡◌, ℕ, zero, suc, ◌+◌, ◌-◌, ◌*◌, ◌<◌, ◌≤◌, false, eqb, ltb, ◌≢◌, List, [], ◌∷◌, ◌++◌, length, sym, refl, ap, ◌∙◌, le_refl, mul-le-mul_right, arith, eqb→eq, ltb→lt, nltb→le, length-append, get_or-set_other, get_or-set_same}
use Rattle.std.proofs.Math.ListN.{get_or-append}
use Rattle.std.proofs.Math.Seq.{get_or-append_seam}
use Rattle.words.specs.declared.Answer.TheVariants.{Whole, Refused}
use Rattle.words.specs.declared.Refusal.TheVariants.{Range}
use Rattle.book.specs.Sizes.{Size, is_order, round_of}
use Rattle.book.specs.Steps.{looked}
use Rattle.book.specs.Verdicts.{takes, placeable}
use Rattle.book.specs.Book.{Row, Book, row_at, row_of, append}
use Rattle.book.specs.Book as B
use Rattle.book.proofs.Choice.{by_test, by_test₂, cases, neq_test, by_order}
use Rattle.book.proofs.Rows.{row_append}
use Rattle.book.proofs.Turns.{block_apart}
use Rattle.line.specs.Line.{Line, Block, Spot, size_of, one_written, record_of, entry_of, label_at, new_turn, room, room_of, labelled, size_in, here}
use Rattle.line.specs.Line.{is_busy, may_put, with_label, put_step, put_many, order_step}
use Rattle.line.specs.Agrees.{front, Lawful, Agrees}
use Rattle.line.proofs.Current.{Window, record_same, record_apart, entry_inj, entry_lt, each_turn}
use Rattle.line.proofs.Cells.{blocks_of, entries_of}
use Rattle.line.proofs.Sound.{stored_lawful}
use Rattle.line.proofs.Verdicts.{by_verdict₂, placeable_same}
use Rattle.line.proofs.Front.{Matches, Follows, matches_of, agrees_of, stays, at_size}
use Rattle.line.proofs.Front.{front_below, front_here, front_above, front_past, front_is}
use Rattle.line.proofs.Front.{sizes, pos, below, near, put_window, current, put_turn_lem, written_same}
use Rattle.line.proofs.Desks.{rule, busy_same}

module _ (l : Line) (b : Book) (g : Agrees (size_of l.head) l b) where
  abbrev p : ℕ
  p = l.head.p

  -- ---- the refusals are the same

  put_verdict : (a : ℕ) → may_put (size_in l) l a ≡ B.may_put (size_in l) b a
  unfolding may_put B.may_put
  put_verdict a =
      rw (put_turn_lem l b g, written_same l b g p (put_window l b g))
      (placeable_same (size_in l) p (here l p).written l.head.k (is_busy (here l (p + 1 - l.head.nb))) (B.is_busy (size_in l) b (p + 1 - l.head.nb)) a
      (λ h. busy_same l b g (p + 1 - l.head.nb) (record { low = omega (arith, pos l b g); high = omega arith }))
      ∙ ap (λ (n : ℕ). placeable (size_in l) p (here l p).written n (B.is_busy (size_in l) b (p + 1 - l.head.nb)) a) (sym g.turn))

  -- ---- label a goes to place q of turn t, whose record is then c

  -- the entries have the label of a spot's row
  abbrev Labels : List ℕ → List Row → Spot → Type 0
  Labels es rs s = label_at (size_in l) es s ≡ (row_at rs (row_of (size_in l) s.turn s.place)).label

  -- that spot is the end of the list, in turn P or P + 1, with turn K still current then; a place below q is written
  record Next (t q : ℕ) (c : Block) : Type 0 where
    last : row_of (size_in l) t q ≡ length b.rows
    fits : q < l.head.ne
    from : p ≤ t
    to : t ≤ p + 1
    wide : t < l.head.k + l.head.nb
    below : (n : ℕ) → n < q → (t ≤ p) × (n < (here l t).written)
    one : c.written ≡ suc q
    claims : l.head.k < t → c.claimed ≡ front (size_in l) l t

  module _ (a t q : ℕ) (c : Block) (e : Next t q c) where
    abbrev m : Line
    m = labelled (size_in l) l a (room (size_in l) t q c)

    abbrev new : Row
    new = record { label = a; gone = false }

    abbrev rs : List Row
    rs = b.rows ++ (new ∷ [])

    new_window : Window (size_in l) t t
    new_window = record { low = le_refl t; high = omega (arith, pos l b g) }

    new_record : record_of (size_in l) m.table t ≡ c
    new_record = record_same (size_in l) l.table t c (pos l b g) (blocks_of (size_in l) l g.lawful)

    -- claimed is the front as it was, and so no front moves
    claimed_front : (u : ℕ) → l.head.k < u → u ≤ t → (record_of (size_in l) m.table u).claimed ≡ front (size_in l) l u
    claimed_front u h i =
        each_turn (size_in l) l.table t t c (pos l b g) (blocks_of (size_in l) l g.lawful) new_window (λ v x. l.head.k < v → x.claimed ≡ front (size_in l) l v) e.claims
        (λ v w n j. sym (front_above (size_in l) l v j (omega (arith, w.low, e.to)))) u (record { low = i; high = omega (arith, e.wide) }) h

    front_put : (u : ℕ) → front (size_in l) m u ≡ front (size_in l) l u
    front_put u =
        front_is (size_in l) m u (front (size_in l) l u)
        (λ s. sym (front_below (size_in l) l u s)) (λ s. sym (front_here (size_in l) l u s)) (claimed_front u) (λ s i. sym (front_past (size_in l) l u s (omega (arith, e.from))))

    -- the new label stands at the end of the list
    new_label : (s : Spot) → s.turn ≡ t → s.place ≡ q → Labels m.entries rs s
    unfolding label_at
    new_label s x y =
        rw (
          x,
          y,
          get_or-set_same l.entries (entry_of (size_in l) t q) a 0 (omega (arith, entry_lt (size_in l) t q (pos l b g) e.fits, entries_of (size_in l) l g.lawful)),
          e.last,
          get_or-append_seam b.rows new [] _,
        )

    -- and each other where it stood, before the end
    module _ (s : Spot) (w : Window (size_in l) t s.turn) (h : s.place < l.head.ne) (n : s.turn ≡ t → s.place < q) where
      other_entry : entry_of (size_in l) s.turn s.place ≢ entry_of (size_in l) t q
      other_entry x =
          let j = entry_inj (size_in l) s.turn s.place t q h e.fits x in
          cases (eqb s.turn t)
          (λ y. omega (arith, n (eqb→eq s.turn t y), j.1))
          (λ y. block_apart (size_in l) t s.turn t w.low w.high (le_refl t) new_window.high (neq_test s.turn t y) j.0)

      before_end : row_of (size_in l) s.turn s.place < length b.rows
      before_end =
          by_order s.turn t
          (λ y. omega (arith, e.last, mul-le-mul_right l.head.ne y))
          (λ y. omega (arith, e.last, n y, ap (λ (u : ℕ). u * l.head.ne) y))
          (λ y. absurd (omega (arith, w.low)))

      old_label : Labels l.entries b.rows s → Labels m.entries rs s
      unfolding label_at
      old_label x =
          get_or-set_other l.entries (entry_of (size_in l) t q) (entry_of (size_in l) s.turn s.place) a 0 other_entry ∙ x
          ∙ ap (λ (r : Row). r.label) (sym (get_or-append b.rows (new ∷ []) _ (row_of (size_in l) s.turn s.place) before_end))

    put_labels : (s : Spot) → Window (size_in l) t s.turn → s.place < (record_of (size_in l) m.table s.turn).written → Labels m.entries rs s
    put_labels s w i =
        cases (eqb s.turn t)
        (λ x. let x' = eqb→eq s.turn t x in
        let i' : s.place < suc q = rw (x', new_record, e.one) at i in
        cases (eqb s.place q)
        (λ y. new_label s x' (eqb→eq s.place q y))
        (λ y. let lt : s.place < q = omega (arith, neq_test s.place q y) in
        let o = e.below s.place lt in
        old_label s w (omega (arith, e.fits)) (λ _. lt) (g.labels s (omega arith) (omega (arith, w.high, e.from)) (rw x' o.1))))
        (λ x. let n = neq_test s.turn t x in
        let old : Window (size_in l) p s.turn = record { low = omega (arith, w.low, e.to); high = omega (arith, w.high, e.from) } in
        let i' : s.place < (here l s.turn).written = rw (record_apart (size_in l) l.table t c t s.turn new_window w n) at i in
        old_label s w (omega (arith, (current l b g s.turn old).fits)) (λ y. absurd (n y)) (g.labels s old.low old.high i'))

    put_matches : Matches (size_in l) m (append b a)
    put_matches = record {
      turn = g.turn;
      desks = g.desks;
      rows = rw (length-append b.rows (new ∷ []), new_record, e.one) (omega (arith, e.last));
      labels = λ s low high i. put_labels s (record { low = low; high = high }) i;
      marks = λ u n h. row_append b.rows a (row_of (size_in l) u n) ∙ g.marks u n h ∙ ap (ltb n) (sym (front_put u));
      looks = λ d s x h. let low = (rule l b g d (looked s) x).0 in
          rw (claimed_front s.turn h (omega (arith, e.from)), front_above (size_in l) l s.turn h low) (g.looks d s x h);
    }

  -- ---- the next place of turn P, or place 0 of turn P + 1

  next_place : (here l p).written < l.head.ne → Next p (here l p).written (one_written (here l p))
  next_place h = record {
    last = sym g.rows;
    fits = h;
    from = le_refl p;
    to = omega arith;
    wide = (near l b g l.head.k (le_refl l.head.k) (below l b g)).high;
    below = λ n i. (le_refl p, i);
    one = refl;
    claims = λ i. sym (front_above (size_in l) l p i (le_refl p));
  }

  abbrev started : Block
  started = new_turn (round_of (size_in l) (p + 1))

  next_turn : l.head.ne ≤ (here l p).written → p + 1 - l.head.k ≤ l.head.nb - 1 → Next (p + 1) 0 started
  next_turn h wide = record {
    last = omega (arith, g.rows, (current l b g p (put_window l b g)).fits);
    fits = omega (arith, (sizes l b g).ne);
    from = omega arith;
    to = le_refl (p + 1);
    wide = omega (arith, pos l b g);
    below = λ n i. absurd (omega arith);
    one = refl;
    claims = λ i. sym (front_past (size_in l) l (p + 1) i (omega arith));
  }

  -- K is within the window of the line after it, which is sound
  stored_matches : (a : ℕ) → Lawful (size_in l) (with_label (size_in l) l a) → Matches (size_in l) (with_label (size_in l) l a) (append b a)
  unfolding with_label room_of
  stored_matches a =
      by_test (λ r. Lawful (size_in l) (labelled (size_in l) l a r) → Matches (size_in l) (labelled (size_in l) l a r) (append b a)) (ltb (here l p).written l.head.ne)
      (λ s w. put_matches a p (here l p).written (one_written (here l p)) (next_place (ltb→lt (here l p).written l.head.ne s)))
      (λ s w. put_matches a (p + 1) 0 started (next_turn (nltb→le (here l p).written l.head.ne s) w.sound.one.near))

-- ---- put and order, at every size

module _ (z : Size) where
  verdict_same : (l : Line) (b : Book) → Agrees z l b → (a : ℕ) → may_put z l a ≡ B.may_put z b a
  verdict_same l b g a = at_size z l b (λ y. may_put y l a ≡ B.may_put y b a) (λ o. put_verdict l b o a) g

  stored_agrees : (l : Line) (b : Book) → Agrees z l b → (a : ℕ) → may_put z l a ≡ takes → Agrees z (with_label z l a) (append b a)
  stored_agrees l b g a t =
      let w = stored_lawful z l a g.lawful t in
      agrees_of z (with_label z l a) (append b a) w
      (at_size z l b (λ y. Lawful y (with_label y l a) → Matches y (with_label y l a) (append b a)) (λ o. stored_matches l b o a) g w)

  pub put_follows : (l : Line) (b : Book) → Agrees z l b → (a : ℕ) → Follows z (put_step z l a) (B.put_step z b a)
  unfolding put_step B.put_step
  put_follows l b g a =
      by_verdict₂ (Follows z) (may_put z l a) (B.may_put z b a) (verdict_same l b g a)
      (λ t. record { same = refl; matches = matches_of z (with_label z l a) (append b a) (stored_agrees l b g a t) })
      (λ w. stays z l b g (Refused w 0))

  many_follows : (n : ℕ) (l : Line) (b : Book) → Agrees z l b → (a count : ℕ) → Follows z (put_many z n l a count) (B.put_many z n b a count)
  unfolding put_many B.put_many
  many_follows zero l b g a count = stays z l b g (Whole count)
  many_follows (suc n) l b g a count =
      by_verdict₂ (Follows z) (may_put z l a) (B.may_put z b a) (verdict_same l b g a)
      (λ t. many_follows n (with_label z l a) (append b a) (stored_agrees l b g a t) (suc a) (suc count))
      (λ w. stays z l b g (Refused w count))

  pub order_follows : (l : Line) (b : Book) → Agrees z l b → (a e : ℕ) → Follows z (order_step z l a e) (B.order_step z b a e)
  unfolding order_step B.order_step
  order_follows l b g a e =
      by_test₂ (Follows z) (is_order a e) (is_order a e) refl (λ _. many_follows (suc e - a) l b g a 0) (λ _. stays z l b g (Refused Range 0))
