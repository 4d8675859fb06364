-- The labels are kept, and not only their number: what leaves, and what a desk holds, are rows of the book; and the labels that
-- come out, with those held unfetched and those that wait, are the labels placed. It is the law `tallied` of proofs/Counting.antt
-- once more, each row weighing what its label weighs.
use Rattle.std.proofs.Common.{◌≡◌, ℕ, zero, suc, ◌+◌, ◌<◌, false, ltb, List, [], ◌∷◌, ◌++◌, map, length, if◌then◌else◌, refl, ap, le_of_suc-le-suc, not-suc-le-zero, arith, ltb→lt, nltb→le}
use Rattle.std.proofs.Math.ListN.{get_or-eq_default}
use Rattle.book.specs.Total.{total}
use Rattle.book.specs.Steps.{idle}
use Rattle.book.specs.Book.{Row, row_at, mark_gone, opened, after, leaves}
use Rattle.book.specs.Counts.{is_row, unfetched_by}
use Rattle.book.specs.Demands.{RowsKept, RowsOfBook, LabelsKept, Handed}
use Rattle.book.specs.Order.{PlacedInOrder}
use Rattle.book.proofs.Choice.{cases, T→true, not→false}
use Rattle.book.proofs.Total.{total_replicate}
use Rattle.book.proofs.Counting.{Tally, opened_kept, rows_kept}
use Rattle.book.proofs.Handed.{handed_over}
use Rattle.book.proofs.Labels.{labels_of, placed_in_order}

-- ---- rows of the book

pub rows_of_book : RowsOfBook
unfolding RowsOfBook RowsKept
rows_of_book z ss =
    let rs = (after z (opened z) ss).rows in (
      λ n h.
          cases (ltb n (length rs)) (λ t. ltb→lt n (length rs) t)
          (λ t. absurd (omega (arith, rows_kept z ss n, ap {B = ℕ} (λ (r : Row). if r.gone then 1 else 0) (get_or-eq_default rs (record { label = 0; gone = false }) (nltb→le n (length rs) t))))),
      λ d h e. rw e at ((opened_kept z ss).fair.within d),
    )

-- ---- a tally of any weight

-- what the gone rows weigh
unfoldable weight_gone : (ℕ → ℕ) → List Row → ℕ
weight_gone w [] = 0
weight_gone w (r ∷ rs) = (if r.gone then w 0 else 0) + weight_gone (λ n. w (suc n)) rs

weight_mark : (w : ℕ → ℕ) (rs : List Row) (m : ℕ) → m < length rs → (row_at rs m).gone ≡ false → weight_gone w (mark_gone rs m) ≡ weight_gone w rs + w m
unfolding weight_gone mark_gone
weight_mark w [] m h e = absurd (not-suc-le-zero h)
weight_mark w (r ∷ rs) zero h e = rw e (omega arith)
weight_mark w (r ∷ rs) (suc m) h e = let more = weight_mark (λ n. w (suc n)) rs m (le_of_suc-le-suc h) e in omega arith

weight_more : (w : ℕ → ℕ) (rs : List Row) (a : ℕ) → weight_gone w (rs ++ (record { label = a; gone = false } ∷ [])) ≡ weight_gone w rs
unfolding weight_gone
weight_more w [] a = refl
weight_more w (r ∷ rs) a = let more = weight_more (λ n. w (suc n)) rs a in omega arith

unfoldable weighing : (ℕ → ℕ) → Tally
weighing w = record { weight = w; gone = weight_gone w; mark = weight_mark w; more = weight_more w }

-- ---- each row weighs what its label weighs

total_map : (g f : ℕ → ℕ) (l : List ℕ) → total g (map f l) ≡ total (λ n. g (f n)) l
unfolding total
total_map g f [] = refl
total_map g f (n ∷ l) = let more = total_map g f l in omega arith

gone_and_waiting : (g : ℕ → ℕ) (rs : List Row)
    → weight_gone (λ n. g (row_at rs n).label) rs + total (λ r. if r.gone then 0 else g r.label) rs ≡ total g (labels_of rs)
unfolding weight_gone total
gone_and_waiting g [] = refl
gone_and_waiting g (r ∷ rs) =
    let more = gone_and_waiting g rs in
    cases r.gone (λ t. rw (T→true r.gone t) (omega arith)) (λ t. rw (not→false r.gone t) (omega arith))

pub labels_kept : LabelsKept
unfolding LabelsKept Handed PlacedInOrder opened weighing weight_gone
labels_kept z ss a =
    let rs = (after z (opened z) ss).rows in
    let label : ℕ → ℕ = λ n. (row_at rs n).label in
    let weight : ℕ → ℕ = λ n. is_row a (label n) in
    rw (handed_over z ss, placed_in_order z ss)
    (omega (arith, total_map (is_row a) label (leaves z (opened z) ss), (opened_kept z ss).tallied (weighing weight), total_replicate (unfetched_by weight) z.t idle refl, gone_and_waiting (is_row a) rs))
