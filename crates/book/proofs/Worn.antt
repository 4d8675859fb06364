-- Put and get by turns, NB 2 and NE 1: n times lead from opening to the book `by_turns n`, every put being placed while n is below
-- 131,072. Row n is then the one row of turn n: the put starts turn n, and the get moves K on to it.
use Rattle.std.proofs.Common.{◌≡◌, ℕ, zero, suc, ◌+◌, ◌-◌, ◌*◌, ◌<◌, ◌≤◌, true, false, List, [], ◌∷◌, ◌++◌, length, drop, replicate, refl, ap, ◌∙◌, div-lt_iff_lt-mul, div-one, arith, length-append}
use Rattle.std.proofs.lemmas.Bool.{lt-leb}
use Rattle.std.proofs.Math.ListN.{length-replicate}
use Rattle.words.specs.declared.Answer.{Answer}
use Rattle.words.specs.declared.Answer.TheVariants.{Put, Got}
use Rattle.book.specs.Choice.{◌<ᵇ◌}
use Rattle.book.specs.Sizes.{Size, sized, is_label, round_of}
use Rattle.book.specs.Steps.{idle, decode}
use Rattle.book.specs.Total.{any}
use Rattle.book.specs.Verdicts.{takes, startable, placeable}
use Rattle.book.specs.Book.{Row, row_at, says, append, hands, mark_gone, gone_before, put_turn, rows_of, written, first, waits, held_in, is_busy, may_put, put_step, read_turn, get_at, get_step, does, step, opened, answers, after}
use Rattle.book.specs.Messages as M
use Rattle.book.specs.WornCases.{by_turns, put_and_get, placed_and_got}
use Rattle.book.proofs.Choice.{choose_same}
use Rattle.book.proofs.Rows.{written_is}

abbrev z : Size
z = sized 2 1 1

abbrev gone : Row
gone = record { label = 1; gone = true }

abbrev waiting : Row
waiting = record { label = 1; gone = false }

-- ---- the rows: m are gone, and then rs

abbrev rows : ℕ → List Row → List Row
rows m rs = replicate m gone ++ rs

past_gone : (m : ℕ) (rs : List Row) → drop m (rows m rs) ≡ rs
past_gone zero rs = refl
past_gone (suc m) rs = past_gone m rs

last_gone : (m : ℕ) (rs : List Row) → drop m (rows (suc m) rs) ≡ gone ∷ rs
last_gone zero rs = refl
last_gone (suc m) rs = last_gone m rs

label_last : (m : ℕ) → (row_at (rows m (waiting ∷ [])) m).label ≡ 1
label_last zero = refl
label_last (suc m) = label_last m

mark_last : (m : ℕ) → mark_gone (rows m (waiting ∷ [])) m ≡ replicate (suc m) gone
unfolding mark_gone
mark_last zero = refl
mark_last (suc m) = ap (λ (rs : List Row). gone ∷ rs) (mark_last m)

-- ---- the put is placed

started : (k n : ℕ) → n < 131072 → n - 2 < k → startable z k false n ≡ takes
unfolding startable
started k n h l =
    rw (lt-leb 65536 (round_of z n) ((div-lt_iff_lt-mul {k = 2} {x = n} {y = 65536} (omega arith)).1 (omega arith)), lt-leb k (n - 2) l) (choose_same (n <ᵇ 2) takes)

put_turn_lem : (rs : List Row) (m : ℕ) → length rs ≡ suc m → put_turn z rs ≡ m
unfolding put_turn
put_turn_lem rs m h = div-one (length rs - 1) ∙ omega arith

placed_later : (m : ℕ) → suc (suc m) < 131072 → may_put z (by_turns (suc (suc m))) 1 ≡ takes
unfolding may_put placeable is_label is_busy any held_in
placed_later m h =
    let rs = replicate (suc (suc m)) gone in
    let p = put_turn_lem rs (suc m) (length-replicate (suc (suc m)) gone) in
    let w : written z rs (suc m) ≡ 1 = omega (arith, written_is z rs (suc m), length-replicate (suc (suc m)) gone) in
    rw (p, w) (started (suc (suc m) - 1) (suc m + 1) (omega arith) (omega arith))

placed : (m : ℕ) → m < 131072 → may_put z (by_turns m) 1 ≡ takes
unfolding may_put placeable is_label is_busy any held_in put_turn written rows_of startable
placed zero h = refl
placed (suc zero) h = refl
placed (suc (suc m)) h = placed_later m h

-- ---- the get hands it over

none_waits : (m : ℕ) (rs : List Row) → waits z (rows (suc m) rs) m ≡ false
unfolding waits first written rows_of gone_before
none_waits m rs = let e : m * 1 ≡ m = omega arith in rw (e, last_gone m rs) refl

one_waits : (m : ℕ) → (first z (rows m (waiting ∷ [])) m ≡ 0) × (waits z (rows m (waiting ∷ [])) m ≡ true)
unfolding waits first written rows_of gone_before
one_waits m = let e : m * 1 ≡ m = omega arith in rw (e, past_gone m (waiting ∷ [])) (refl, refl)

reads : (m : ℕ) → let rs = rows (suc m) (waiting ∷ []) in read_turn z (put_turn z rs - (suc m - 1)) rs (suc m - 1) ≡ suc m
unfolding read_turn
reads m =
    let rs = rows (suc m) (waiting ∷ []) in
    let long : length rs ≡ suc (suc m) = omega (arith, length-append (replicate (suc m) gone) (waiting ∷ []), length-replicate (suc m) gone) in
    let k : suc m - 1 ≡ m = omega arith in
    let one : suc m - m ≡ 1 = omega arith in
    rw (put_turn_lem rs (suc m) long, k, one, none_waits m (waiting ∷ [])) refl

got_at : (m : ℕ) → let b = append (by_turns m) 1 in get_at z b m ≡ hands (record { rows = replicate (suc m) gone; k = m; desks = idle ∷ [] }) (Got 1) m
unfolding get_at
got_at m =
    let row : m * 1 + 0 ≡ m = omega arith in
    rw ((one_waits m).0, (one_waits m).1, row, label_last m, mark_last m) refl

got : (m : ℕ) → get_step z (append (by_turns m) 1) ≡ hands (by_turns (suc m)) (Got 1) m
unfolding get_step read_turn put_turn
got zero = got_at 0
got (suc m) = rw (reads m) (got_at (suc m) ∙ ap (λ (k : ℕ). hands (record { rows = replicate (suc (suc m)) gone; k = k; desks = idle ∷ [] }) (Got 1) (suc m)) (omega arith))

-- ---- n times, from m labels on

put_step_lem : (m : ℕ) → m < 131072 → step z (by_turns m) (M.put 1) ≡ says (append (by_turns m) 1) (Put 1)
unfolding step decode does put_step
put_step_lem m h = rw (placed m h) refl

get_step_lem : (m : ℕ) → step z (append (by_turns m) 1) M.get ≡ hands (by_turns (suc m)) (Got 1) m
unfolding step decode does
get_step_lem m = got m

abbrev Runs : ℕ → ℕ → Type 0
Runs n m = (answers z (by_turns m) (put_and_get n) ≡ placed_and_got n) × (after z (by_turns m) (put_and_get n) ≡ by_turns (n + m))

runs : (n m : ℕ) → n + m ≤ 131072 → Runs n m
unfolding put_and_get placed_and_got answers after
runs zero m h = (refl, ap by_turns (omega arith))
runs (suc n) m h =
    let r = runs n (suc m) (omega arith) in
    let p = put_step_lem m (omega arith) in
    (rw (p, get_step_lem m) (ap (λ (l : List Answer). Put 1 ∷ Got 1 ∷ l) r.0), rw (after, p, get_step_lem m) (r.1 ∙ ap by_turns (omega arith)))

pub from_opening_lem : (n : ℕ) → n ≤ 131072 → (answers z (opened z) (put_and_get n) ≡ placed_and_got n) × (after z (opened z) (put_and_get n) ≡ by_turns n)
unfolding opened
from_opening_lem n h = let r = runs n 0 (omega arith) in (r.0, r.1 ∙ ap by_turns (omega arith))
