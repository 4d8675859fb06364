-- First in, first out. Where no claim is won the rows gone are the first of all, as many as were got, and a get takes the next.
use Rattle.std.proofs.Common.{◌≡◌, ℕ, zero, suc, ◌+◌, ◌-◌, ◌/◌, ◌<◌, ◌≤◌, T, eqb, ltb, List, [], ◌∷◌, map, length, get_or, take, set, sym, refl, ap, ◌∙◌, arith, eqb→eq, ltb→lt, lt→ltb, nltb→le, true≢false, lt-ltb, le-ltb}
use Rattle.std.proofs.Math.ListN.{length-map}
use Rattle.book.specs.Choice.{◌<ᵇ◌}
use Rattle.book.specs.Total.{total, up_from}
use Rattle.book.specs.Sizes.{Size, is_order}
use Rattle.book.specs.Steps.{Step, DeskStep, Deed, put, get, order, desk, unlisted, decode, Desk, idle}
use Rattle.book.specs.Book.{Row, Book, Outcome, row_at, desk_at, append, mark_gone, row_of, first, waits, may_put, put_step, put_many, order_step, get_at, get_step, desk_step, does, step, opened, answers, after, leaves}
use Rattle.book.specs.Counts.{count, got, won}
use Rattle.book.specs.Demands.{Counting, Placed, Handed}
use Rattle.book.specs.Order.{FirstInFirstOut, PlacedInOrder}
use Rattle.book.proofs.Choice.{by_test, by_verdict, by_order, cases, neq_test, same_test}
use Rattle.book.proofs.Turns.{div_mono}
use Rattle.book.proofs.Total.{replicate_at}
use Rattle.book.proofs.Rows.{row_turn, first_fits, first_waits, first_in, row_append, mark_other, mark_same}
use Rattle.book.proofs.Counting.{counting, placed_rows}
use Rattle.book.proofs.Handed.{handed_over}
use Rattle.book.proofs.DeskKinds.{desk_kind, each_desk, Free}
use Rattle.book.proofs.Fronts.{Gone, Fronts, first_before, reads, reads_past, step_grows, opened_fronts}
use Rattle.book.proofs.Rising.{up_add, up_reads}
use Rattle.book.proofs.Labels.{labels_of, reads_label, placed_in_order}

-- the first g rows are gone, and no other; no desk holds a row
record Clean (g : ℕ) (b : Book) : Type 0 where
  marks : (n : ℕ) → (row_at b.rows n).gone ≡ (n <ᵇ g)
  desks : (d : ℕ) → Free (desk_at b d)

module _ (z : Size) where
  -- a step hands over the next rows, if any
  record Next (g : ℕ) (o : Outcome) : Type 0 where
    rows : o.left ≡ up_from (count o.answer).got g
    clean : Clean (g + (count o.answer).got) o.book

  module _ (b : Book) (g : ℕ) (c : Clean g b) where
    abbrev Goes : Outcome → Type 0
    Goes o = (count o.answer).won ≡ 0 → Next g o

    -- a step that hands over nothing, and marks nothing
    quiet : (o : Outcome) → o.left ≡ [] → (count o.answer).got ≡ 0 → ((n : ℕ) → (row_at o.book.rows n).gone ≡ (row_at b.rows n).gone)
        → ((d : ℕ) → Free (desk_at o.book d)) → Goes o
    quiet o l h m f = λ _.
        let e : g + (count o.answer).got ≡ g = omega arith in
        record { rows = l ∙ ap (λ (n : ℕ). up_from n g) (sym h); clean = rw e (record { marks = λ n. m n ∙ c.marks n; desks = f }) }

    by_desk : (d : ℕ) (x : Desk ℕ) → Free x → (e : ℕ) → Free (get_or (set b.desks d x) e idle)
    by_desk d x h e = each_desk Free b.desks d e x h c.desks

    desk_goes : (d : ℕ) (s : DeskStep) → Goes (desk_step z b d s (desk_at b d))
    desk_goes = desk_kind z b Goes (record {
      refused = λ _ _. quiet _ refl refl (λ n. refl) c.desks;
      seen = λ d _ _ _ _ _. quiet _ refl refl (λ n. refl) (by_desk d _ tt);
      won = λ _ _ _ _ _ h. absurd (omega arith);
      lost = λ d _ _ _ _. quiet _ refl refl (λ n. refl) (by_desk d idle tt);
      took = λ d _ _ e _. absurd (rw e at (c.desks d));
      done = λ d _ _ e _. absurd (rw e at (c.desks d));
    })

    -- a get hands over row g: it waits, and all rows before it are gone
    module _ (f : Fronts z b) (w : T (waits z b.rows (reads z b))) where
      abbrev next : ℕ
      next = row_of z (reads z b) (first z b.rows (reads z b))

      next_turn : next / z.ne ≡ reads z b
      next_turn = row_turn z (reads z b) (first z b.rows (reads z b)) (first_fits z b.rows (reads z b) w)

      all_before : (m : ℕ) → m < next → Gone b.rows m
      all_before m h =
          cases (ltb (m / z.ne) (reads z b)) (λ t. reads_past z b f m (ltb→lt (m / z.ne) (reads z b) t))
          (λ t. first_before z b.rows (reads z b) w m h (let l = div_mono {a = m} {b = next} z.ne (omega arith) in omega (arith, next_turn, nltb→le (m / z.ne) (reads z b) t)))

      next_is : next ≡ g
      next_is =
          by_order next g
          (λ h. absurd (true≢false (sym (lt-ltb next g h) ∙ sym (c.marks next) ∙ first_waits z b.rows (reads z b) w)))
          (λ e. e)
          (λ h. absurd (true≢false (sym (all_before g h) ∙ c.marks g ∙ le-ltb g g (omega arith))))

      marks_next : (n : ℕ) → (row_at (mark_gone b.rows next) n).gone ≡ (n <ᵇ g + 1)
      marks_next n =
          cases (eqb n next)
          (λ t. let e = eqb→eq n next t in rw e (mark_same b.rows next (first_in z b.rows (reads z b) w) ∙ sym (lt-ltb next (g + 1) (omega (arith, next_is)))))
          (λ t. let d = neq_test n next t in
          ap (λ (r : Row). r.gone) (mark_other b.rows next n d) ∙ c.marks n
          ∙ same_test (n <ᵇ g) (n <ᵇ g + 1) (λ l. lt→ltb n (g + 1) (let h = ltb→lt n g l in omega arith)) (λ l. lt→ltb n g (let h = ltb→lt n (g + 1) l in omega (arith, next_is))))

    get_goes : Fronts z b → Goes (get_step z b)
    unfolding get_step get_at
    get_goes f =
        by_test Goes (waits z b.rows (reads z b))
        (λ w _. record { rows = ap (λ (n : ℕ). n ∷ []) (next_is f w); clean = record { marks = marks_next f w; desks = c.desks } })
        (λ _. quiet _ refl refl (λ n. refl) c.desks)

  -- a put marks nothing
  record Adds (b : Book) (o : Outcome) : Type 0 where
    left : o.left ≡ []
    none : (count o.answer).got ≡ 0
    same : (n : ℕ) → (row_at o.book.rows n).gone ≡ (row_at b.rows n).gone
    desks : (d : ℕ) → desk_at o.book d ≡ desk_at b d

  many_adds : (n : ℕ) (b : Book) (a k : ℕ) → Adds b (put_many z n b a k)
  unfolding put_many
  many_adds zero b a k = record { left = refl; none = refl; same = λ n. refl; desks = λ d. refl }
  many_adds (suc n) b a k =
      by_verdict (Adds b) (may_put z b a)
      (λ _. let r = many_adds n (append b a) (suc a) (suc k) in record { left = r.left; none = r.none; same = λ m. r.same m ∙ row_append b.rows a m; desks = r.desks })
      (λ w _. record { left = refl; none = refl; same = λ n. refl; desks = λ d. refl })

  does_goes : (b : Book) (e : Deed) → Fronts z b → (g : ℕ) (c : Clean g b) → Goes b g c (does z b e)
  unfolding does put_step order_step
  does_goes b (put a) f g c =
      by_verdict (Goes b g c) (may_put z b a) (λ _. quiet b g c _ refl refl (row_append b.rows a) c.desks) (λ w _. quiet b g c _ refl refl (λ n. refl) c.desks)
  does_goes b get f g c = get_goes b g c f
  does_goes b (order a e) f g c =
      by_test (Goes b g c) (is_order a e)
      (λ _. let r = many_adds (suc e - a) b a 0 in quiet b g c _ r.left r.none r.same (λ d. rw (r.desks d) (c.desks d)))
      (λ _. quiet b g c _ refl refl (λ n. refl) c.desks)
  does_goes b (desk d s) f g c = desk_goes b g c d s
  does_goes b unlisted f g c = quiet b g c _ refl refl (λ n. refl) c.desks

  run_goes : (ss : List Step) (b : Book) → Fronts z b → (g : ℕ) → Clean g b → won (answers z b ss) ≡ 0 → leaves z b ss ≡ up_from (got (answers z b ss)) g
  unfolding answers leaves step total
  run_goes [] b f g c h = refl
  run_goes (s ∷ ss) b f g c h =
      let o = step z b s in
      let n = does_goes b (decode s) f g c (omega arith) in
      let r = run_goes ss o.book (step_grows z b s f).fronts (g + (count o.answer).got) n.clean (omega arith) in
      rw (n.rows, r, up_add (count o.answer).got (got (answers z o.book ss)) g) refl

  opened_clean : Clean 0 (opened z)
  unfolding opened
  opened_clean = record { marks = λ n. sym (le-ltb n 0 (omega arith)); desks = λ d. rw (replicate_at {A = Desk ℕ} z.t d idle) tt }

pub first_in_first_out : FirstInFirstOut
unfolding FirstInFirstOut PlacedInOrder Handed Counting Placed
first_in_first_out z ss h =
    let rs = (after z (opened z) ss).rows in
    let l = answers z (opened z) ss in
    let rows = run_goes z ss (opened z) (opened_fronts z) 0 (opened_clean z) h in
    let long : 0 + got l ≤ length (labels_of rs) = rw (length-map rs (λ r. r.label)) (omega (arith, counting z ss, placed_rows z ss)) in
    handed_over z ss ∙ ap (map (λ n. (row_at rs n).label)) rows ∙ (λ i. map (λ n. reads_label rs n i) (up_from (got l) 0))
    ∙ up_reads (labels_of rs) (got l) 0 long ∙ ap (take (got l)) (sym (placed_in_order z ss))
