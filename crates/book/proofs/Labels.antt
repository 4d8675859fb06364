-- Labels in order. The rows of the book are the labels placed, in order; and the labels that gets hand over are those of the rows got,
-- which are in order (proofs/Order.antt): so they are the labels placed with others left out.
use Rattle.std.proofs.Common.{◌≡◌, ℕ, zero, suc, ◌+◌, ◌-◌, ◌<◌, false, ltb, List, [], ◌∷◌, ◌++◌, map, length, get_or, if◌then◌else◌, sym, refl, ap, ◌∙◌, ap₂, append_assoc, append-nil, zero-le, arith, ltb→lt, nltb→le, true≢false}
use Rattle.std.specs.List.{AllByRecursion as All}
use Rattle.std.proofs.Math.ListN.{length-map, get_or-map, get_or-eq_default}
use Rattle.std.proofs.Math.Seq.{map-set_same}
use Rattle.std.proofs.lemmas.List.{map-append}
use Rattle.book.specs.Choice.{◌≡ᵇ◌}
use Rattle.book.specs.Sizes.{Size, within, is_order}
use Rattle.book.specs.Steps.{Step, Deed, put, get, order, desk, unlisted, decode}
use Rattle.book.specs.Total.{up_from}
use Rattle.book.specs.Book.{Row, Book, Outcome, row_at, append, mark_gone, waits, may_put, put_step, put_many, order_step, get_at, get_step, does, step, opened, answers, after}
use Rattle.book.specs.Counts.{count}
use Rattle.book.specs.Order.{placed_labels, got_labels, got_rows, PlacedInOrder, GotInOrder}
use Rattle.book.proofs.Choice.{by_test, by_test₂, by_verdict, cases}
use Rattle.book.proofs.Counting.{Fair, Reads, does_kept, run_kept, opened_fair}
use Rattle.book.proofs.DeskKinds.{desk_kind}
use Rattle.book.proofs.Fronts.{Gone, Fronts, reads, step_grows, run_grows, opened_fronts}
use Rattle.book.proofs.Order.{step_gets, run_got}
use Rattle.book.proofs.Rising.{all_map, all_append, picked}

-- ---- the labels placed

abbrev pub labels_of : List Row → List ℕ
labels_of rs = map (λ r. r.label) rs

labels_mark : (rs : List Row) (n : ℕ) → labels_of (mark_gone rs n) ≡ labels_of rs
unfolding mark_gone
labels_mark rs n = map-set_same (λ (r : Row). r.label) rs n _ (record { label = 0; gone = false }) refl

-- what a deed places, if it places, are labels from a on
abbrev StartsAt : ℕ → Deed → Type 0
StartsAt a (put x) = x ≡ a
StartsAt a get = Unit {0}
StartsAt a (order x e) = x ≡ a
StartsAt a (desk d s) = Unit {0}
StartsAt a unlisted = Unit {0}

starts_at : (s : Step) → StartsAt s.a (decode s)
unfolding decode
starts_at s =
    let S = StartsAt s.a in
    by_test S (s.code ≡ᵇ 0) (λ _. refl) (λ _. by_test S (s.code ≡ᵇ 1) (λ _. tt) (λ _. by_test S (s.code ≡ᵇ 2) (λ _. refl) (λ _.
    by_test S (within 16 31 s.code) (λ _. tt) (λ _. by_test S (within 32 47 s.code) (λ _. tt) (λ _.
    by_test S (within 48 63 s.code) (λ _. tt) (λ _. by_test S (within 64 79 s.code) (λ _. tt) (λ _. tt)))))))

module _ (z : Size) where
  abbrev Places : ℕ → Book → Outcome → Type 0
  Places a b o = labels_of o.book.rows ≡ labels_of b.rows ++ up_from (count o.answer).placed a

  -- m labels from a on, where c were counted before
  record Many (b : Book) (a c : ℕ) (o : Outcome) : Type 0 where
    many : ℕ
    counted : (count o.answer).placed ≡ c + many
    labels : labels_of o.book.rows ≡ labels_of b.rows ++ up_from many a

  append_labels : (b : Book) (a : ℕ) → labels_of (append b a).rows ≡ labels_of b.rows ++ (a ∷ [])
  append_labels b a = map-append (λ (r : Row). r.label) b.rows (record { label = a; gone = false } ∷ [])

  many_placed : (n : ℕ) (b : Book) (a c : ℕ) → Many b a c (put_many z n b a c)
  unfolding put_many
  many_placed zero b a c = record { many = 0; counted = omega arith; labels = sym (append-nil (labels_of b.rows)) }
  many_placed (suc n) b a c =
      by_verdict (Many b a c) (may_put z b a)
      (λ _. let r = many_placed n (append b a) (suc a) (suc c) in
      record {
        many = suc r.many;
        counted = omega (arith, r.counted);
        labels = r.labels ∙ ap (λ (l : List ℕ). l ++ up_from r.many (suc a)) (append_labels b a) ∙ append_assoc (labels_of b.rows) (a ∷ []) (up_from r.many (suc a));
      })
      (λ w _. record { many = 0; counted = omega arith; labels = sym (append-nil (labels_of b.rows)) })

  does_places : (b : Book) (e : Deed) (a : ℕ) → StartsAt a e → Places a b (does z b e)
  unfolding does put_step order_step get_step get_at
  does_places b (put x) a h = rw h (by_verdict (Places a b) (may_put z b a) (λ _. append_labels b a) (λ w _. sym (append-nil (labels_of b.rows))))
  does_places b get a h =
      by_test (Places a b) (waits z b.rows (reads z b)) (λ _. labels_mark b.rows _ ∙ sym (append-nil (labels_of b.rows))) (λ _. sym (append-nil (labels_of b.rows)))
  does_places b (order x e) a h =
      rw h (by_test (Places a b) (is_order a e)
      (λ _. let r = many_placed (suc e - a) b a 0 in let is : (count (put_many z (suc e - a) b a 0).answer).placed ≡ r.many = omega (arith, r.counted) in rw is r.labels)
      (λ _. sym (append-nil (labels_of b.rows))))
  does_places b (desk d s) a h =
      let same = sym (append-nil (labels_of b.rows)) in
      desk_kind z b (Places a b) (record {
        refused = λ _ _. same;
        seen = λ _ _ _ _ _ _. same;
        won = λ _ r _ _ _. labels_mark b.rows r ∙ same;
        lost = λ _ _ _ _ _. same;
        took = λ _ _ _ _ _. same;
        done = λ _ _ _ _ _. same;
      }) d s
  does_places b unlisted a h = sym (append-nil (labels_of b.rows))

  run_places : (ss : List Step) (b : Book) → labels_of b.rows ++ placed_labels ss (answers z b ss) ≡ labels_of (after z b ss).rows
  unfolding placed_labels answers after step
  run_places [] b = append-nil (labels_of b.rows)
  run_places (s ∷ ss) b =
      let o = step z b s in
      let rest = placed_labels ss (answers z o.book ss) in
      sym (append_assoc (labels_of b.rows) (up_from (count o.answer).placed s.a) rest)
      ∙ ap (λ (l : List ℕ). l ++ rest) (sym (does_places b (decode s) s.a (starts_at s))) ∙ run_places ss o.book

pub placed_in_order : PlacedInOrder
unfolding PlacedInOrder opened
placed_in_order z ss = run_places z ss (opened z)

-- a row's label is read off them
pub reads_label : (rs : List Row) (n : ℕ) → (row_at rs n).label ≡ get_or (labels_of rs) n 0
reads_label rs n = sym (get_or-map (λ (r : Row). r.label) rs n (record { label = 0; gone = false }))

-- ---- the labels that gets hand over

module _ (z : Size) where
  got_labels_lem : (ss : List Step) (b : Book) → Fair z b.rows b.desks → (f : ℕ → ℕ) → Reads f (after z b ss).rows
      → got_labels ss (answers z b ss) ≡ map f (got_rows z b ss)
  unfolding got_labels got_rows answers after step
  got_labels_lem [] b h f q = refl
  got_labels_lem (s ∷ ss) b h f q =
      let o = step z b s in
      let k = does_kept z b h (decode s) in
      let r = run_kept z o.book ss k.fair in
      let now = by_test₂ {A = List ℕ} {B = List ℕ} (λ x y. x ≡ map f y) (s.code ≡ᵇ 1) (s.code ≡ᵇ 1) refl (λ _. k.hands.labels f (r.reads f q)) (λ _. refl) in
      ap₂ ◌++◌ now (got_labels_lem ss o.book k.fair f q) ∙ sym (map-append f (if s.code ≡ᵇ 1 then o.left else []) (got_rows z o.book ss))

  got_gone : (ss : List Step) (b : Book) → Fronts z b → All (Gone (after z b ss).rows) (got_rows z b ss)
  unfolding got_rows after
  got_gone [] b f = tt
  got_gone (s ∷ ss) b f =
      let c = (step z b s).book in
      let g = (step_grows z b s f).fronts in
      let e = Gone (after z c ss).rows in
      let rest = got_gone ss c g in
      by_test (λ (l : List ℕ). All e (l ++ got_rows z c ss)) (s.code ≡ᵇ 1)
      (λ t. all_append e (step z b s).left (got_rows z c ss) (all_map _ e (λ n w. (run_grows z c ss g).gone n w.gone_after) (step z b s).left (step_gets z b s t).0) rest)
      (λ _. rest)

gone_in : (rs : List Row) (n : ℕ) → Gone rs n → n < length rs
gone_in rs n g =
    cases (ltb n (length rs)) (λ t. ltb→lt n (length rs) t)
    (λ t. absurd (true≢false (sym g ∙ ap (λ (r : Row). r.gone) (get_or-eq_default rs _ (nltb→le n (length rs) t)))))

pub got_in_order : GotInOrder
unfolding GotInOrder PlacedInOrder
got_in_order z ss =
    let rs = (after z (opened z) ss).rows in
    let rows = got_rows z (opened z) ss in
    let f : ℕ → ℕ = λ n. get_or (labels_of rs) n 0 in
    let labels = got_labels_lem z ss (opened z) (opened_fair z) f (λ n h. sym (reads_label rs n)) in
    let inside = all_map (Gone rs) (λ n. n < length (labels_of rs)) (λ n g. rw (length-map rs (λ r. r.label)) (gone_in rs n g)) rows (got_gone z ss (opened z) (opened_fronts z)) in
    rw (labels, placed_in_order z ss) (picked (labels_of rs) rows 0 (run_got z ss (opened z) (opened_fronts z) 0 (λ m h w. zero-le)) inside)
