-- Counting: labels placed = got + fetched + claimed but unfetched + waiting, and no row's label leaves twice.
-- For every row: the times it left + the desks that hold it unfetched = 1 if it is gone, and 0 if it waits or is not yet
-- placed. So it left at most once; and summed over the rows, left + held = gone, which is placed - waiting.
-- Both are one law, `tallied`, of two tallies. `Kept` says what a step keeps, the labels of proofs/Handed.antt among it:
-- one lemma for each kind of change, one for each step, then every run.
use Rattle.std.proofs.Common.{◌≡◌, ℕ, zero, suc, ◌+◌, ◌-◌, ◌/◌, ◌<◌, ◌≤◌, Bool, true, false, not, T, eqb, List, [], ◌∷◌, ◌++◌, map, length, get_or, set, if◌then◌else◌, sym, refl, ap, ◌∙◌, ap₂, arith, eqb→eq, length-append, length-set, get_or-set_other, get_or-set_same}
use Rattle.std.proofs.Math.ListN.{length-replicate, get_or-append}
use Rattle.std.proofs.lemmas.List.{map-append}
use Rattle.book.specs.Choice.{◌<ᵇ◌}
use Rattle.book.specs.Total.{total}
use Rattle.book.specs.Sizes.{Size, is_order}
use Rattle.book.specs.Steps.{Step, DeskStep, Deed, decode, Hold, Desk, idle, looked, holding, claimed_at, with_fetched, is_fetched}
use Rattle.book.specs.Book.{Row, Book, Outcome, row_at, desk_at, with_desk, append, mark_gone, put_turn, waits, may_put, put_step, put_many, order_step, read_turn}
use Rattle.book.specs.Book.{get_at, get_step, winnable, desk_step, does, step, opened, answers, after, leaves}
use Rattle.book.specs.Counts.{count, placed, got, took, unfetched_by, is_row, waits_by, handed}
use Rattle.book.specs.Demands.{Counting, Placed, RowsKept, NeverTwice}
use Rattle.book.proofs.Choice.{by_test, by_verdict, cases, T→true, not→false, and_first, neq_test, eqb_same}
use Rattle.book.proofs.Total.{total_append, total_set, total_replicate, replicate_at}
use Rattle.book.proofs.Deeds.{by_deed}
use Rattle.book.proofs.DeskKinds.{Free, desk_kind}
use Rattle.book.proofs.Rows.{first_waits, first_in, row_append, mark_length, mark_other, mark_same, mark_label}

-- ---- the tallies: every row alike, and one row alone

-- a weight for each row, and what the gone rows weigh together: a mark adds its row's weight, one more row nothing
pub record Tally : Type 0 where
  pub weight : ℕ → ℕ
  pub gone : List Row → ℕ
  pub mark : (rs : List Row) (m : ℕ) → m < length rs → (row_at rs m).gone ≡ false → gone (mark_gone rs m) ≡ gone rs + weight m
  pub more : (rs : List Row) (a : ℕ) → gone (rs ++ (record { label = a; gone = false } ∷ [])) ≡ gone rs

abbrev gone_by : Row → ℕ
gone_by r = if r.gone then 1 else 0

abbrev pub one : ℕ → ℕ
one n = 1

every : Tally
unfolding mark_gone total
every = record {
  weight = one;
  gone = total gone_by;
  mark = λ rs m h w.
      let set-one = total_set gone_by rs m (record { label = (row_at rs m).label; gone = true }) (record { label = 0; gone = false }) h in
      omega (arith, ap {B = ℕ} (λ (g : Bool). if g then 1 else 0) w);
  more = λ rs a. omega (arith, total_append gone_by rs (record { label = a; gone = false } ∷ []));
}

gone_waiting : (rs : List Row) → total gone_by rs + total waits_by rs ≡ length rs
unfolding total
gone_waiting [] = refl
gone_waiting (r ∷ rs) =
    let h = gone_waiting rs in cases r.gone (λ t. rw (T→true r.gone t) (omega arith)) (λ t. rw (not→false r.gone t) (omega arith))

unfoldable pub only : ℕ → Tally
only n = record {
  weight = is_row n;
  gone = λ rs. gone_by (row_at rs n);
  mark = λ rs m h w.
      cases (eqb m n)
      (λ t. rw (← (eqb→eq m n t), mark_same rs m h, w, eqb_same m) refl)
      (λ t. rw (mark_other rs m n (λ e. neq_test m n t (sym e)), not→false (eqb m n) t) (omega arith));
  more = λ rs a. rw (row_append rs a n) refl;
}

-- ---- what a step keeps

-- the least length of a list with the desk's row on it
abbrev pub reach : Desk ℕ → ℕ
reach idle = 0
reach (looked r) = suc r
reach (holding h) = suc h.at

-- the weight of the rows that desks hold unfetched
abbrev pub held : (ℕ → ℕ) → List (Desk ℕ) → ℕ
held w ds = total (unfetched_by w) ds

pub free_unfetched : (w : ℕ → ℕ) (x : Desk ℕ) → Free x → unfetched_by w x ≡ 0
free_unfetched w idle f = refl
free_unfetched w (looked r) f = refl
free_unfetched w (holding h) f = absurd f

-- f gives the label of every row on the list
abbrev pub Reads : (ℕ → ℕ) → List Row → Type 0
Reads f rs = (n : ℕ) → n < length rs → f n ≡ (row_at rs n).label

-- the g labels ls are those of the rows l
pub record Hands (rs : List Row) (g : ℕ) (ls l : List ℕ) : Type 0 where
  pub many : total one l ≡ g
  pub labels : (f : ℕ → ℕ) → Reads f rs → ls ≡ map f l

none : (rs : List Row) → Hands rs 0 [] []
unfolding total
none rs = record { many = refl; labels = λ f r. refl }

single : (rs : List Row) (n : ℕ) → n < length rs → Hands rs 1 ((row_at rs n).label ∷ []) (n ∷ [])
unfolding total
single rs n h = record { many = refl; labels = λ f r. ap (λ (v : ℕ). v ∷ []) (sym (r n h)) }

module _ (z : Size) where
  -- the desks are T, and their rows are on the list
  pub record Fair (rs : List Row) (ds : List (Desk ℕ)) : Type 0 where
    pub many : length ds ≡ z.t
    pub within : (d : ℕ) → reach (get_or ds d idle) ≤ length rs

  -- from book b to book c, where an order's count is k before and p after: the g labels ls of the rows l leave
  pub record Kept (b : Book) (k : ℕ) (c : Book) (p g : ℕ) (ls l : List ℕ) : Type 0 where
    pub fair : Fair c.rows c.desks
    -- a row for each label placed
    pub grown : length c.rows + k ≡ length b.rows + p
    -- what left and what desks hold unfetched weighs as much as what is gone
    pub tallied : (y : Tally) → total y.weight l + held y.weight c.desks + y.gone b.rows ≡ held y.weight b.desks + y.gone c.rows
    -- a row on the list keeps its label
    pub reads : (f : ℕ → ℕ) → Reads f c.rows → Reads f b.rows
    pub hands : Hands c.rows g ls l

  -- what a step's outcome owes
  abbrev Owes : ℕ → Book → Outcome → Type 0
  Owes k b o = let n = count o.answer in Kept b k o.book n.placed (n.got + n.fetched) n.labels o.left

  -- ---- the kinds of change: of desks alone, a mark, one more row

  of_desks : (b : Book) (t k : ℕ) (ds : List (Desk ℕ)) {g : ℕ} {ls l : List ℕ} → Fair b.rows ds → Hands b.rows g ls l
      → ((w : ℕ → ℕ) → total w l + held w ds ≡ held w b.desks) → Kept b k (record { rows = b.rows; k = t; desks = ds }) k g ls l
  of_desks b t k ds f h e = record { fair = f; grown = refl; tallied = λ y. omega (arith, e y.weight); reads = λ f r. r; hands = h }

  of_mark : (b : Book) (m t k : ℕ) (ds : List (Desk ℕ)) {g : ℕ} {ls l : List ℕ} → m < length b.rows → (row_at b.rows m).gone ≡ false
      → Fair b.rows ds → Hands b.rows g ls l → ((w : ℕ → ℕ) → total w l + held w ds ≡ held w b.desks + w m)
      → Kept b k (record { rows = mark_gone b.rows m; k = t; desks = ds }) k g ls l
  of_mark b m t k ds i w f h e =
      let long = mark_length b.rows m in
      let reads : (f : ℕ → ℕ) → Reads f (mark_gone b.rows m) → Reads f b.rows = λ f r n j. r n (omega arith) ∙ mark_label b.rows m n i in
      record {
        fair = record { many = f.many; within = λ d. omega (arith, f.within d) };
        grown = omega arith;
        tallied = λ y. omega (arith, y.mark b.rows m i w, e y.weight);
        reads = reads;
        hands = record { many = h.many; labels = λ f r. h.labels f (reads f r) };
      }

  of_append : (b : Book) (a k : ℕ) → Fair b.rows b.desks → Kept b k (append b a) (suc k) 0 [] []
  unfolding total
  of_append b a k f =
      let long = length-append b.rows (record { label = a; gone = false } ∷ []) in
      record {
        fair = record { many = f.many; within = λ d. omega (arith, f.within d) };
        grown = omega arith;
        tallied = λ y. omega (arith, y.more b.rows a);
        reads = λ f r n h. r n (omega arith) ∙ ap (λ (x : Row). x.label) (get_or-append b.rows _ _ n h);
        hands = none (append b a).rows;
      }

  -- a refusal, or an order's end: at most K changes
  stays : (b : Book) (t k : ℕ) → Fair b.rows b.desks → Kept b k (record b { k = t }) k 0 [] []
  unfolding total
  stays b t k f = of_desks b t k b.desks f (none b.rows) (λ w. omega arith)

  -- ---- put, order, get

  many_kept : (n : ℕ) (b : Book) (a k : ℕ) → Fair b.rows b.desks → Owes k b (put_many z n b a k)
  unfolding put_many total
  many_kept zero b a k f = stays b b.k k f
  many_kept (suc n) b a k f =
      by_verdict (Owes k b) (may_put z b a)
      (λ _. let p = of_append b a k f in
      let r = many_kept n (append b a) (suc a) (suc k) p.fair in
      record { fair = r.fair; grown = omega arith; tallied = λ y. omega (arith, p.tallied y, r.tallied y); reads = λ f q. p.reads f (r.reads f q); hands = r.hands })
      (λ w _. stays b b.k k f)

  module _ (b : Book) (f : Fair b.rows b.desks) where
    refused : Kept b 0 b 0 0 [] []
    refused = stays b b.k 0 f

    put_kept : (a : ℕ) → Owes 0 b (put_step z b a)
    unfolding put_step
    put_kept a = by_verdict (Owes 0 b) (may_put z b a) (λ _. of_append b a 0 f) (λ w _. refused)

    order_kept : (a e : ℕ) → Owes 0 b (order_step z b a e)
    unfolding order_step
    order_kept a e = by_test (Owes 0 b) (is_order a e) (λ _. many_kept (suc e - a) b a 0 f) (λ _. refused)

    get_kept : (t : ℕ) → Owes 0 b (get_at z b t)
    unfolding get_at total
    get_kept t =
        by_test (Owes 0 b) (waits z b.rows t)
        (λ w. let i = first_in z b.rows t w in of_mark b _ t 0 b.desks i (first_waits z b.rows t w) f (single b.rows _ i) (λ w. omega arith))
        (λ _. stays b t 0 f)

    -- ---- the steps of desk d

    module _ (d : ℕ) (h : d < z.t) where
      fair_set : (y : Desk ℕ) → reach y ≤ length b.rows → Fair b.rows (set b.desks d y)
      fair_set y i = record {
        many = length-set b.desks d y ∙ f.many;
        within = λ c.
            cases (eqb c d)
            (λ t. rw (eqb→eq c d t, get_or-set_same b.desks d y idle (omega arith)) i)
            (λ t. rw (get_or-set_other b.desks d c y idle (neq_test c d t)) (f.within c));
      }

      -- the desk becomes y, and no row changes
      becomes : (y : Desk ℕ) {g : ℕ} {ls l : List ℕ} → reach y ≤ length b.rows → Hands b.rows g ls l
          → ((w : ℕ → ℕ) → total w l + unfetched_by w y ≡ unfetched_by w (desk_at b d)) → Kept b 0 (with_desk b d y) 0 g ls l
      becomes y i g o = of_desks b b.k 0 (set b.desks d y) (fair_set y i) g (λ w. omega (arith, total_set (unfetched_by w) b.desks d y idle (omega arith), o w))

      -- a desk that holds nothing unfetched comes to hold nothing
      lets_go : (y : Desk ℕ) → reach y ≤ length b.rows → ((w : ℕ → ℕ) → unfetched_by w y ≡ 0) → ((w : ℕ → ℕ) → unfetched_by w (desk_at b d) ≡ 0) → Kept b 0 (with_desk b d y) 0 0 [] []
      unfolding total
      lets_go y i n o = becomes y i (none b.rows) (λ w. omega (arith, n w, o w))

      wins : (r : ℕ) → desk_at b d ≡ looked r → T (winnable z b.rows b.k r)
          → Kept b 0 (record b { rows = mark_gone b.rows r; desks = set b.desks d (holding (claimed_at r)) }) 0 0 [] []
      unfolding winnable total
      wins r e t =
          let i : r < length b.rows = rw e at (f.within d) in
          let g = (row_at b.rows r).gone in
          let x = holding (claimed_at r) in
          of_mark b r b.k 0 (set b.desks d x) i (not→false g (and_first (not g) (b.k <ᵇ r / z.ne) t)) (fair_set x i) (none b.rows)
          (λ w. omega (arith, total_set (unfetched_by w) b.desks d x idle (omega arith), ap (unfetched_by w) e))

      fetches : (x : Hold ℕ) → desk_at b d ≡ holding x → T (not (is_fetched x)) → Kept b 0 (with_desk b d (holding (with_fetched x))) 0 1 ((row_at b.rows x.at).label ∷ []) (x.at ∷ [])
      unfolding total
      fetches x e u =
          let i : x.at < length b.rows = rw e at (f.within d) in
          becomes (holding (with_fetched x)) i (single b.rows x.at i) (λ w. rw (e, not→false (is_fetched x) u) (omega arith))

    desk_kept : (d : ℕ) (s : DeskStep) → Owes 0 b (desk_step z b d s (desk_at b d))
    desk_kept = desk_kind z b (Owes 0 b) (record {
      refused = λ w _. refused;
      seen = λ d t i free k v. lets_go d i _ (first_in z b.rows t v) (λ w. refl) (λ w. free_unfetched w (desk_at b d) free);
      won = λ d r i e w. wins d i r e w;
      lost = λ d r i e n. lets_go d i idle (omega arith) (λ w. refl) (λ w. ap (unfetched_by w) e);
      took = λ d x i e u. fetches d i x e u;
      done = λ d x i e g. lets_go d i idle (omega arith) (λ w. refl) (λ w. rw (e, T→true (is_fetched x) g) refl);
    })

    -- ---- every step, every run

    pub does_kept : (s : Deed) → Owes 0 b (does z b s)
    unfolding get_step
    does_kept =
        by_deed z b (Owes 0 b) (record {
          puts = put_kept;
          gets = get_kept (read_turn z (put_turn z b.rows - b.k) b.rows b.k);
          orders = order_kept;
          desks = desk_kept;
          unlists = refused;
        })

  abbrev pub Run : Book → List Step → Type 0
  Run b ss = let l = answers z b ss in Kept b 0 (after z b ss) (placed l) (got l + took l) (handed l) (leaves z b ss)

  pub run_kept : (b : Book) (ss : List Step) → Fair b.rows b.desks → Run b ss
  unfolding answers after leaves step total handed
  run_kept b [] f = stays b b.k 0 f
  run_kept b (s ∷ ss) f =
      let p = does_kept b f (decode s) in
      let c = (step z b s).book in
      let r = run_kept c ss p.fair in
      record {
        fair = r.fair;
        grown = omega arith;
        tallied = λ y. omega (arith, total_append y.weight (step z b s).left (leaves z c ss), p.tallied y, r.tallied y);
        reads = λ f q. p.reads f (r.reads f q);
        hands = record {
          many = omega (arith, total_append one (step z b s).left (leaves z c ss));
          labels = λ f q. ap₂ ◌++◌ (p.hands.labels f (r.reads f q)) (r.hands.labels f q) ∙ sym (map-append f (step z b s).left (leaves z c ss));
        };
      }

  -- ---- from opening

  pub opened_fair : Fair (opened z).rows (opened z).desks
  unfolding opened
  opened_fair = record { many = length-replicate z.t idle; within = λ d. omega (arith, ap reach (replicate_at z.t d idle)) }

  pub opened_kept : (ss : List Step) → Run (opened z) ss
  opened_kept ss = run_kept (opened z) ss opened_fair

pub counting : Counting
unfolding Counting opened every total
counting z ss =
    let b = after z (opened z) ss in
    let r = opened_kept z ss in
    omega (arith, r.grown, r.tallied every, r.hands.many, total_replicate (unfetched_by one) z.t idle refl, gone_waiting b.rows)

pub placed_rows : Placed
unfolding Placed opened
placed_rows z ss = omega (arith, (opened_kept z ss).grown)

pub rows_kept : RowsKept
unfolding RowsKept opened only
rows_kept z ss n = omega (arith, (opened_kept z ss).tallied (only n), total_replicate (unfetched_by (is_row n)) z.t idle refl)

pub never_twice : NeverTwice
unfolding NeverTwice RowsKept
never_twice z ss n =
    let most = by_test {A = ℕ} (λ m. m ≤ 1) (row_at (after z (opened z) ss).rows n).gone {x = 1} {y = 0} (λ _. omega arith) (λ _. omega arith) in
    omega (arith, rows_kept z ss n)
