-- Fronts: in each turn the rows that are gone are its first, and below turn K all are. Every step of every run keeps it so.
-- A get takes the first waiting row of a turn, and K moves on only from a turn in which none waits. A look sees the first waiting row
-- of a turn, and a claim is won only while that row waits: then all rows before it in its turn are gone still.
-- With it: K ≤ P, P - K ≤ NB - 1, and the round of turn P is below 65,536.
use Rattle.std.proofs.Common.{◌≡◌, ℕ, zero, suc, ◌+◌, ◌-◌, ◌*◌, ◌/◌, ◌%◌, ◌<◌, ◌≤◌, true, false, not, T, eqb, ltb, ◌⊎◌, List, [], ◌∷◌, length, set, sym, refl, ap, ◌∙◌, inl, inr, ⊎_elim, zero-le, le_trans, le_of_suc-le-suc, not-suc-le-zero, mul-le-mul_right, mod-lt, div-lt_iff_lt-mul, div-add-mod', div-mul-le_self, arith, eqb→eq, ltb→lt, nltb→le, T_not, length-append, true≢false}
use Rattle.std.proofs.Math.Dec.{nleb→lt}
use Rattle.std.proofs.Math.Nat.{div-zero, zero-div, lt-div-mul-add}
use Rattle.words.specs.declared.Refusal.{Refusal}
use Rattle.book.specs.Choice.{◌<ᵇ◌, ◌≤ᵇ◌}
use Rattle.book.specs.Sizes.{Size, is_label, is_order, round_of}
use Rattle.book.specs.Verdicts.{Verdict, judge, startable, placeable}
use Rattle.book.specs.Steps.{Step, DeskStep, Deed, decode, Desk, idle, looked, holding, claimed_at, with_fetched}
use Rattle.book.specs.Book.{Row, Book, Outcome, row_at, desk_at, append, mark_gone, gone_before, put_turn, row_of, rows_of, written, first, waits, is_busy, may_put, put_step, put_many, order_step, read_turn}
use Rattle.book.specs.Book.{get_at, get_step, desk_step, does, step, opened, after}
use Rattle.book.specs.Demands.{GetMoves}
use Rattle.book.proofs.Choice.{by_test, cases, T→true, neq_test}
use Rattle.book.proofs.Total.{replicate_at}
use Rattle.book.proofs.Turns.{div_mono, div_next}
use Rattle.book.proofs.Deeds.{by_deed}
use Rattle.book.proofs.DeskKinds.{desk_kind, each_desk}
use Rattle.book.proofs.Rows.{written_is, row_turn, row_place, first_fits, read_from_lem, read_to, row_append, mark_length, mark_other}

-- ---- rows that are gone

abbrev pub Gone : List Row → ℕ → Type 0
Gone rs n = (row_at rs n).gone ≡ true

-- all rows before the first waiting one are gone
gone_before_gone : (rs : List Row) (p : ℕ) → p < gone_before rs → Gone rs p
unfolding gone_before
gone_before_gone [] p = λ h. absurd (not-suc-le-zero h)
gone_before_gone (r ∷ rs) zero =
    by_test (λ m. 0 < m → r.gone ≡ true) r.gone (λ t h. T→true r.gone t) (λ t h. absurd (not-suc-le-zero h))
gone_before_gone (r ∷ rs) (suc p) =
    by_test (λ m. suc p < m → Gone rs p) r.gone (λ t h. gone_before_gone rs p (le_of_suc-le-suc h)) (λ t h. absurd (not-suc-le-zero h))

-- a mark leaves the gone rows gone, and no other row goes
set_gone : (rs : List Row) (n m : ℕ) (r : Row) → r.gone ≡ true → Gone rs m → Gone (set rs n r) m
set_gone [] n m r e g = g
set_gone (x ∷ rs) zero zero r e g = e
set_gone (x ∷ rs) zero (suc m) r e g = g
set_gone (x ∷ rs) (suc n) zero r e g = g
set_gone (x ∷ rs) (suc n) (suc m) r e g = set_gone rs n m r e g

pub mark_keeps : (rs : List Row) (n m : ℕ) → Gone rs m → Gone (mark_gone rs n) m
unfolding mark_gone
mark_keeps rs n m g = set_gone rs n m _ refl g

pub mark_new : (rs : List Row) (n m : ℕ) → Gone (mark_gone rs n) m → Gone rs m ⊎ (m ≡ n)
mark_new rs n m g = cases (eqb m n) (λ t. inr (eqb→eq m n t)) (λ t. inl (ap (λ (r : Row). r.gone) (sym (mark_other rs n m (neq_test m n t))) ∙ g))

module _ (z : Size) where
  -- all rows before row r in its turn are gone
  abbrev pub Before : List Row → ℕ → Type 0
  Before rs r = (m : ℕ) → m < r → m / z.ne ≡ r / z.ne → Gone rs m

  -- so it is with the row that a desk has looked at
  abbrev Seen : List Row → Desk ℕ → Type 0
  Seen rs idle = Unit {0}
  Seen rs (looked r) = Before rs r
  Seen rs (holding h) = Unit {0}

  pub record Fronts (b : Book) : Type 0 where
    pub reached : b.k ≤ put_turn z b.rows
    pub near : put_turn z b.rows ≤ b.k + (z.nb - 1)
    pub rounds : round_of z (put_turn z b.rows) < 65536
    pub prefix : (n : ℕ) → Gone b.rows n → Before b.rows n
    pub past : (n : ℕ) → n / z.ne < b.k → Gone b.rows n
    pub seen : (d : ℕ) → Seen b.rows (desk_at b d)

  -- ---- the first waiting row of a turn, and a turn in which none waits

  pub first_before : (rs : List Row) (t : ℕ) → T (waits z rs t) → Before rs (row_of z t (first z rs t))
  unfolding first
  first_before rs t w m h e =
      let f = first_fits z rs t w in
      let same = e ∙ row_turn z t (first z rs t) f in
      let whole = div-add-mod' m z.ne in
      let times = ap (λ (x : ℕ). x * z.ne) same in
      let q = m % z.ne in
      let is : m ≡ row_of z t q = omega arith in
      rw is (ap (λ (r : Row). r.gone) (sym (row_place z rs t q (omega arith))) ∙ gone_before_gone (rows_of z rs t) q (omega arith))

  pub none_waits : (rs : List Row) (t : ℕ) → T (not (waits z rs t)) → 0 < z.ne → (n : ℕ) → n / z.ne ≡ t → n < length rs → Gone rs n
  unfolding waits first written
  none_waits rs t w pos n e h =
      let q = n % z.ne in
      let low = mod-lt n pos in
      let whole = div-add-mod' n z.ne in
      let times = ap (λ (x : ℕ). x * z.ne) e in
      let is : n ≡ row_of z t q = omega arith in
      let all = nltb→le (gone_before (rows_of z rs t)) (length (rows_of z rs t)) w in
      rw is (ap (λ (r : Row). r.gone) (sym (row_place z rs t q low)) ∙ gone_before_gone (rows_of z rs t) q (omega (arith, written_is z rs t)))

  -- ---- what a step keeps: the fronts, and what is gone stays gone

  pub record Grows (b c : Book) : Type 0 where
    pub fronts : Fronts c
    pub onward : b.k ≤ c.k
    pub gone : (n : ℕ) → Gone b.rows n → Gone c.rows n

  grows_on : (b c e : Book) → Grows b c → Grows c e → Grows b e
  grows_on b c e g h = record { fronts = h.fronts; onward = omega (arith, g.onward, h.onward); gone = λ n q. h.gone n (g.gone n q) }

  seen_still : (rs qs : List Row) → ((n : ℕ) → Gone rs n → Gone qs n) → (x : Desk ℕ) → Seen rs x → Seen qs x
  seen_still rs qs g idle s = tt
  seen_still rs qs g (looked r) s = λ m h e. g m (s m h e)
  seen_still rs qs g (holding h) s = tt

  module _ (b : Book) (f : Fronts b) where
    stays : Grows b b
    stays = record { fronts = f; onward = omega arith; gone = λ n g. g }

    of_desk : (d : ℕ) (x : Desk ℕ) → Seen b.rows x → Grows b (record b { desks = set b.desks d x })
    of_desk d x s = record {
      fronts = record {
        reached = f.reached;
        near = f.near;
        rounds = f.rounds;
        prefix = f.prefix;
        past = f.past;
        seen = λ c. each_desk (Seen b.rows) b.desks d c x s f.seen;
      };
      onward = omega arith;
      gone = λ n g. g;
    }

    -- K moves on to turn t, below which all rows are gone
    of_move : (t : ℕ) → b.k ≤ t → t ≤ put_turn z b.rows → ((m : ℕ) → m / z.ne < t → Gone b.rows m)
        → Grows b (record b { k = t })
    of_move t h l all = record {
      fronts = record { reached = l; near = omega (arith, f.near); rounds = f.rounds; prefix = f.prefix; past = all; seen = f.seen };
      onward = h;
      gone = λ n g. g;
    }

    -- row n is marked, all before it in its turn being gone
    of_mark : (n : ℕ) → Before b.rows n → Grows b (record b { rows = mark_gone b.rows n })
    unfolding put_turn
    of_mark n q =
        let keeps = mark_keeps b.rows n in
        record {
          fronts = record {
            reached = rw mark_length f.reached;
            near = rw mark_length f.near;
            rounds = rw mark_length f.rounds;
            prefix = λ m g.
                ⊎_elim (λ o i h e. keeps i (f.prefix m o i h e)) (λ e i h s. keeps i (q i (omega arith) (s ∙ ap (λ (x : ℕ). x / z.ne) e))) (mark_new b.rows n m g);
            past = λ m h. keeps m (f.past m h);
            seen = λ d. seen_still b.rows (mark_gone b.rows n) keeps (desk_at b d) (f.seen d);
          };
          onward = omega arith;
          gone = keeps;
        }

  -- ---- get

  -- no row waits in a turn that a get passes; and where none waits in the turn that it comes to, that is the last it could reach
  pub read_past : (n : ℕ) (rs : List Row) (k t : ℕ) → k ≤ t → t < read_turn z n rs k → T (not (waits z rs t))
  unfolding read_turn
  read_past zero rs k t h = λ l. absurd (omega arith)
  read_past (suc n) rs k t h =
      by_test (λ u. t < u → T (not (waits z rs t))) (waits z rs k) (λ _ l. absurd (omega arith)) (λ w l.
      cases (eqb t k) (λ e. rw (eqb→eq t k e) w) (λ e. let m = neq_test t k e in read_past n rs (suc k) t (omega arith) l))

  pub read_last : (n : ℕ) (rs : List Row) (k : ℕ) → T (not (waits z rs (read_turn z n rs k))) → read_turn z n rs k ≡ k + n
  unfolding read_turn
  read_last zero rs k = λ _. omega arith
  read_last (suc n) rs k =
      by_test (λ u. T (not (waits z rs u)) → u ≡ k + suc n) (waits z rs k) (λ w v. absurd (T_not (waits z rs k) v w)) (λ _ v. let r = read_last n rs (suc k) v in omega arith)

  -- there is a turn after the first only if a turn has entries
  turn_has : (rs : List Row) → 0 < put_turn z rs → 0 < z.ne
  unfolding put_turn
  turn_has rs h = cases (ltb 0 z.ne) (λ t. ltb→lt 0 z.ne t) (λ t. let e : z.ne ≡ 0 = omega (arith, nltb→le 0 z.ne t) in absurd (let g : 0 < (length rs - 1) / 0 = rw e at h in omega (arith, div-zero (length rs - 1))))

  -- a row of a turn below P is on the list
  below_in : (rs : List Row) (n : ℕ) → n / z.ne < put_turn z rs → 0 < z.ne → n < length rs
  unfolding put_turn
  below_in rs n h pos =
      omega (arith, lt-div-mul-add {a = n} pos, mul-le-mul_right z.ne h, div-mul-le_self (length rs - 1) z.ne)

  -- the turn that a get reads
  abbrev pub reads : Book → ℕ
  reads b = read_turn z (put_turn z b.rows - b.k) b.rows b.k

  pub reads_low : (b : Book) → b.k ≤ reads b
  reads_low b = read_from_lem z (put_turn z b.rows - b.k) b.rows b.k

  module _ (b : Book) (f : Fronts b) where
    pub reads_high : reads b ≤ put_turn z b.rows
    reads_high = omega (arith, f.reached, read_to z (put_turn z b.rows - b.k) b.rows b.k)

    pub reads_past : (m : ℕ) → m / z.ne < reads b → Gone b.rows m
    reads_past m h =
        cases (ltb (m / z.ne) b.k) (λ t. f.past m (ltb→lt (m / z.ne) b.k t)) (λ t.
        let high = reads_high in
        let pos = turn_has b.rows (omega arith) in
        none_waits b.rows (m / z.ne) (read_past (put_turn z b.rows - b.k) b.rows b.k (m / z.ne) (nltb→le (m / z.ne) b.k t) h) pos m refl
        (below_in b.rows m (omega arith) pos))

    moved : Grows b (record b { k = reads b })
    moved = of_move b f (reads b) (reads_low b) reads_high reads_past

    get_grows : Grows b (get_step z b).book
    unfolding get_step get_at
    get_grows =
        by_test (λ (o : Outcome). Grows b o.book) (waits z b.rows (reads b))
        (λ w. grows_on b _ _ moved (of_mark _ moved.fronts (row_of z (reads b) (first z b.rows (reads b))) (first_before b.rows (reads b) w)))
        (λ _. moved)

    -- ---- the steps of desks

    desk_grows : (d : ℕ) (s : DeskStep) → Grows b (desk_step z b d s (desk_at b d)).book
    desk_grows = desk_kind z b (λ o. Grows b o.book) (record {
      refused = λ w _. stays b f;
      seen = λ d t _ _ _ w. of_desk b f d (looked (row_of z t (first z b.rows t))) (first_before b.rows t w);
      won = λ d r _ e _. grows_on b _ _ (of_mark b f r (rw e at (f.seen d))) (of_desk _ (of_mark b f r (rw e at (f.seen d))).fronts d (holding (claimed_at r)) tt);
      lost = λ d _ _ _ _. of_desk b f d idle tt;
      took = λ d x _ _ _. of_desk b f d (holding (with_fetched x)) tt;
      done = λ d _ _ _ _. of_desk b f d idle tt;
    })

    -- ---- put: the label's row is of turn P, or of turn P + 1 where that may be started

    pub record Room : Type 0 where
      pub near : length b.rows / z.ne ≤ b.k + (z.nb - 1)
      pub rounds : round_of z (length b.rows / z.ne) < 65536

    -- turn P has room
    room_here : written z b.rows (put_turn z b.rows) < z.ne → Room
    unfolding put_turn
    room_here h =
        let n = length b.rows in
        let p = (n - 1) / z.ne in
        let pos : 0 < z.ne = omega arith in
        let low : n / z.ne < p + 1 = (div-lt_iff_lt-mul {k = z.ne} {x = n} {y = p + 1} pos).1 (omega (arith, written_is z b.rows p)) in
        let is : n / z.ne ≡ p = omega (arith, div_mono {a = n - 1} {b = n} z.ne (omega arith)) in
        record { near = rw is f.near; rounds = rw is f.rounds }

    next_turn : length b.rows / z.ne ≤ put_turn z b.rows + 1
    unfolding put_turn
    next_turn = let n = length b.rows in le_trans (div_mono {a = n} {b = n - 1 + 1} z.ne (omega arith)) (div_next z.ne (n - 1))

    room_next : put_turn z b.rows + 1 ≤ b.k + (z.nb - 1) → round_of z (put_turn z b.rows + 1) < 65536 → Room
    room_next h r = record { near = omega (arith, next_turn); rounds = omega (arith, div_mono z.nb next_turn) }

    -- what holds of every refusal, and where there is room of the label placed, holds of a put
    pub places : (P : Outcome → Type 0) (a : ℕ) {o : Outcome} {g : Refusal → Outcome} → (Room → P o) → ((w : Refusal) → P (g w)) → P (judge (may_put z b a) o g)
    unfolding may_put placeable startable
    places P a {o} {g} there not_there =
        let J : Verdict → Type 0 = λ v. P (judge v o g) in
        let p = put_turn z b.rows in
        by_test J (not (is_label a)) (λ _. not_there _) (λ _.
        by_test J (written z b.rows p <ᵇ z.ne) (λ w. there (room_here (ltb→lt (written z b.rows p) z.ne w))) (λ _.
        by_test J (65536 ≤ᵇ round_of z (p + 1)) (λ _. not_there _) (λ v. let low = nleb→lt 65536 (round_of z (p + 1)) v in
        by_test J (p + 1 <ᵇ z.nb) (λ t. there (room_next (omega (arith, ltb→lt (p + 1) z.nb t)) low)) (λ t.
        by_test J (b.k ≤ᵇ p + 1 - z.nb) (λ _. not_there _) (λ u.
        by_test J (is_busy z b (p + 1 - z.nb)) (λ _. not_there _) (λ _.
        there (room_next (omega (arith, f.reached, nltb→le (p + 1) z.nb t, nleb→lt b.k (p + 1 - z.nb) u)) low)))))))

    append_grows : (a : ℕ) → Room → Grows b (append b a)
    unfolding put_turn
    append_grows a r =
        let long = length-append b.rows (record { label = a; gone = false } ∷ []) in
        let is : length (append b a).rows - 1 ≡ length b.rows = omega arith in
        let on = div_mono {a = length b.rows - 1} {b = length b.rows} z.ne (omega arith) in
        let gone = row_append b.rows a in
        let keeps : (n : ℕ) → Gone b.rows n → Gone (append b a).rows n = λ n g. gone n ∙ g in
        record {
          fronts = record {
            reached = rw is (omega (arith, f.reached));
            near = rw is r.near;
            rounds = rw is r.rounds;
            prefix = λ n g i h e. keeps i (f.prefix n (sym (gone n) ∙ g) i h e);
            past = λ n h. keeps n (f.past n h);
            seen = λ d. seen_still b.rows (append b a).rows keeps (desk_at b d) (f.seen d);
          };
          onward = omega arith;
          gone = keeps;
        }

    put_grows : (a : ℕ) → Grows b (put_step z b a).book
    unfolding put_step
    put_grows a = places (λ o. Grows b o.book) a (append_grows a) (λ w. stays b f)

  many_grows : (n : ℕ) (b : Book) (a c : ℕ) → Fronts b → Grows b (put_many z n b a c).book
  unfolding put_many
  many_grows zero b a c f = stays b f
  many_grows (suc n) b a c f =
      places b f (λ o. Grows b o.book) a
      (λ r. let g = append_grows b f a r in grows_on b (append b a) _ g (many_grows n (append b a) (suc a) (suc c) g.fronts)) (λ w. stays b f)

  order_grows : (b : Book) (a e : ℕ) → Fronts b → Grows b (order_step z b a e).book
  unfolding order_step
  order_grows b a e f = by_test (λ (o : Outcome). Grows b o.book) (is_order a e) (λ _. many_grows (suc e - a) b a 0 f) (λ _. stays b f)

  -- ---- every step, every run

  does_grows : (b : Book) (e : Deed) → Fronts b → Grows b (does z b e).book
  does_grows b e f =
      by_deed z b (λ o. Grows b o.book) (record { puts = put_grows b f; gets = get_grows b f; orders = λ a e. order_grows b a e f; desks = desk_grows b f; unlists = stays b f }) e

  pub step_grows : (b : Book) (s : Step) → Fronts b → Grows b (step z b s).book
  unfolding step
  step_grows b s f = does_grows b (decode s) f

  pub run_grows : (b : Book) (ss : List Step) → Fronts b → Grows b (after z b ss)
  unfolding after
  run_grows b [] f = stays b f
  run_grows b (s ∷ ss) f =
      let g = step_grows b s f in
      grows_on b (step z b s).book _ g (run_grows (step z b s).book ss g.fronts)

  -- ---- from opening

  pub opened_fronts : Fronts (opened z)
  unfolding opened put_turn
  opened_fronts = record {
    reached = zero-le;
    near = rw (zero-div z.ne) zero-le;
    rounds = rw (zero-div z.ne, zero-div z.nb) (omega arith);
    prefix = λ n g. absurd (true≢false (sym g));
    past = λ n h. absurd (omega arith);
    seen = λ d. rw (replicate_at {A = Desk ℕ} z.t d idle) tt;
  }

-- ---- one get moves at most NB - 1 blocks

get_turn : (z : Size) (b : Book) (t : ℕ) → (get_at z b t).book.k ≡ t
unfolding get_at
get_turn z b t = by_test (λ (o : Outcome). o.book.k ≡ t) (waits z b.rows t) (λ _. refl) (λ _. refl)

pub get_moves : GetMoves
unfolding GetMoves step does get_step
get_moves z ss s e =
    let b = after z (opened z) ss in
    let f = (run_grows z (opened z) ss (opened_fronts z)).fronts in
    let n = put_turn z b.rows - b.k in
    rw (e, get_turn z b (read_turn z n b.rows b.k))
    (read_from_lem z n b.rows b.k, omega (arith, read_to z n b.rows b.k, f.near))
