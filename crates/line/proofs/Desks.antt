-- The desks of both: the book's are the line's first T, each turn and place as a row, and the line's from T up are idle.
-- So as many desks hold a row of a turn as hold a spot of it, and BUSY is the same on both sides, by rule 7. A desk that
-- is written is written in both; with it records and rows may change, where written and the labels stand, and claimed
-- does not fall.
use Rattle.std.proofs.Common.{◌≡◌, ℕ, zero, suc, ◌<◌, ◌≤◌, ltb, List, [], ◌∷◌, map, length, get_or, take, set, if◌then◌else◌, sym, refl, ap, ◌∙◌, subst, arith, ltb→lt, lt→ltb, nltb→le, length-take, get_or-take}
use Rattle.std.proofs.lemmas.List.{map-set}
use Rattle.std.proofs.Math.ListN.{get_or-map, get_or-eq_default}
use Rattle.std.proofs.Math.Seq.{take-set-lt}
use Rattle.book.specs.Total.{total}
use Rattle.book.specs.Steps.{Desk, idle, looked, Hold, holding, hold_of}
use Rattle.book.specs.Book.{Row, Book, row_at, row_of}
use Rattle.book.specs.Book as B
use Rattle.book.proofs.Choice.{cases, same_test}
use Rattle.book.proofs.Total.{total_none, any_total}
use Rattle.book.proofs.Rows.{row_turn}
use Rattle.line.specs.Line.{Line, LentDesk, Block, Spot, nowhere, desk_of, numbers_of, desk_at, size_of, with_desk, record_of, is_busy, size_in, here}
use Rattle.line.specs.Rules.{held_in, DeskRule}
use Rattle.line.specs.Agrees.{as_row, front, Agrees}
use Rattle.line.proofs.Current.{Window, current→window}
use Rattle.line.proofs.Kept.{desk_lent, each_desk}
use Rattle.line.proofs.Front.{Matches, front_same, sizes, pos, near, put_window, current}

-- ---- a desk that looked

abbrev pub IsLooked : Desk Spot → Type 0
IsLooked idle = ⊥
IsLooked (looked s) = Unit {0}
IsLooked (holding h) = ⊥

pub looked_not : (x : Desk Spot) → (IsLooked x → ⊥) → (s : Spot) → x ≡ looked s → ⊥
looked_not x n s e = n (subst IsLooked (sym e) tt)

-- ---- the first n of a list, mapped

module _ {A B : Type 0} (f : A → B) where
  -- their total is that of the whole list, where the others count 0
  total_first : (c : B → ℕ) (h : A → ℕ) (n : ℕ) (l : List A) (d : A)
      → ((i : ℕ) → c (f (get_or l i d)) ≡ h (get_or l i d)) → ((i : ℕ) → n ≤ i → h (get_or l i d) ≡ 0) → total c (map f (take n l)) ≡ total h l
  unfolding total
  total_first c h zero l d same none = sym (total_none h l d (λ i. none i (omega arith)))
  total_first c h (suc n) [] d same none = refl
  total_first c h (suc n) (x ∷ xs) d same none =
      let r = total_first c h n xs d (λ i. same (suc i)) (λ i j. none (suc i) (omega arith)) in omega (arith, same 0)

module _ (l : Line) (b : Book) (g : Agrees (size_of l.head) l b) where
  abbrev p : ℕ
  p = l.head.p

  abbrev as_desk : LentDesk → Desk ℕ
  as_desk x = as_row (size_in l) (desk_of x)

  -- ---- a desk of both

  pub desk_same : (d : ℕ) → B.desk_at b d ≡ as_row (size_in l) (desk_at l.head d)
  unfolding desk_of
  desk_same d =
      let first = take l.head.t l.head.desks in
      ap (λ (ds : List (Desk ℕ)). get_or ds d idle) g.desks ∙ get_or-map as_desk first d (numbers_of idle)
      ∙ cases (ltb d l.head.t)
      (λ t. ap as_desk (get_or-take l.head.t l.head.desks d (numbers_of idle) (ltb→lt d l.head.t t)))
      (λ t. let h = nltb→le d l.head.t t in
      ap as_desk (get_or-eq_default first (numbers_of idle) (rw length-take (omega arith))) ∙ ap (as_row (size_in l)) (sym (g.lawful.sound.three.idles d h)))

  desks_set : (d : ℕ) (x : Desk Spot) → d < l.head.t → set b.desks d (as_row (size_in l) x) ≡ map as_desk (take l.head.t (set l.head.desks d (numbers_of x)))
  desks_set d x h =
      rw (g.desks, take-set-lt l.head.t l.head.desks d (numbers_of x) h, map-set as_desk (take l.head.t l.head.desks) d (numbers_of x), desk_lent x)

  -- what rule 3 says of it: a spot that it holds is current, and its label is written
  pub rule : (d : ℕ) (x : Desk Spot) → desk_at l.head d ≡ x → DeskRule l x
  rule d x e = rw e at (g.lawful.sound.three.desks d)

  module _ (h : Hold Spot) (r : DeskRule l (holding h)) where
    abbrev s : Spot
    s = h.at

    pub held_current : Window (size_in l) p s.turn
    held_current = current→window (size_in l) p s.turn (pos l b g) r.0

    pub held_written : s.place < (here l s.turn).written
    held_written = omega (arith, r.1, (current l b g s.turn held_current).claims)

    held_fits : s.place < l.head.ne
    held_fits = omega (arith, held_written, (current l b g s.turn held_current).fits)

  -- ---- BUSY

  pub held_same : (q : ℕ) (x : Desk Spot) → DeskRule l x → (if B.held_in (size_in l) q (as_row (size_in l) x) then 1 else 0) ≡ held_in q x
  unfolding B.held_in
  held_same q idle r = refl
  held_same q (looked s) r = refl
  held_same q (holding h) r = rw (row_turn (size_in l) h.at.turn h.at.place (held_fits h r))

  held_total : (q : ℕ) → total (λ x. if B.held_in (size_in l) q x then 1 else 0) b.desks ≡ total (λ x. held_in q (desk_of x)) l.head.desks
  held_total q =
      rw g.desks
      (total_first as_desk (λ x. if B.held_in (size_in l) q x then 1 else 0) (λ x. held_in q (desk_of x)) l.head.t l.head.desks (numbers_of idle)
      (λ d. held_same q (desk_at l.head d) (rule d (desk_at l.head d) refl))
      (λ d h. ap (held_in q) (g.lawful.sound.three.idles d h)))

  pub busy_same : (q : ℕ) → Window (size_in l) p q → is_busy (here l q) ≡ B.is_busy (size_in l) b q
  unfolding B.is_busy
  busy_same q w =
      let n = total (λ (x : LentDesk). held_in q (desk_of x)) l.head.desks in
      let c = here l q in
      let e = (current l b g q w).holders in
      rw (any_total (B.held_in (size_in l) q) b.desks, held_total q)
      (same_test (ltb c.finished c.claimed) (ltb 0 n)
      (λ s. lt→ltb 0 n (omega (arith, ltb→lt c.finished c.claimed s)))
      (λ s. lt→ltb c.finished c.claimed (omega (arith, ltb→lt 0 n s))))

  -- ---- a desk changes

  -- what it sees above K is at most claimed
  abbrev pub Sees : List Block → Desk Spot → Type 0
  Sees tb x = (s : Spot) → x ≡ looked s → l.head.k < s.turn → s.place ≤ (record_of (size_in l) tb s.turn).claimed

  pub sees_not : (tb : List Block) (x : Desk Spot) → (IsLooked x → ⊥) → Sees tb x
  sees_not tb x n s e = absurd (looked_not x n s e)

  pub sees_place : (tb : List Block) (s : Spot) → s.place ≤ (record_of (size_in l) tb s.turn).claimed → Sees tb (looked s)
  sees_place tb s h u e i = subst (λ (v : Spot). v.place ≤ (record_of (size_in l) tb v.turn).claimed) (ap (λ (x : Desk Spot). (hold_of nowhere x).at) e) h

  module _ (d : ℕ) (h : d < l.head.t) (x : Desk Spot) where
    abbrev pub changed : List Block → Line
    changed tb = record { head = with_desk l.head d x; table = tb; entries = l.entries }

    desk_in_lem : d < length l.head.desks
    desk_in_lem = omega (arith, (sizes l b g).t_most, g.lawful.many)

    pub desk_matches : (tb : List Block) (rs : List Row)
        → ((u : ℕ) → Window (size_in l) p u → ((record_of (size_in l) tb u).written ≡ (here l u).written) × ((here l u).claimed ≤ (record_of (size_in l) tb u).claimed)) → Sees tb x
        → length rs ≡ length b.rows → ((m : ℕ) → (row_at rs m).label ≡ (row_at b.rows m).label)
        → ((u q : ℕ) → q < l.head.ne → (row_at rs (row_of (size_in l) u q)).gone ≡ ltb q (front (size_in l) (changed tb) u))
        → Matches (size_in l) (changed tb) (record { rows = rs; k = b.k; desks = set b.desks d (as_row (size_in l) x) })
    desk_matches tb rs kept sees many label marks = record {
      turn = g.turn;
      desks = desks_set d x h;
      rows = rw (many, (kept p (put_window l b g)).0) g.rows;
      labels = λ s low high i. let w : Window (size_in l) p s.turn = record { low = low; high = high } in
          g.labels s low high (rw (kept s.turn w).0 at i) ∙ sym (label (row_of (size_in l) s.turn s.place));
      marks = marks;
      looks = each_desk l.head d x desk_in_lem (λ _. Sees tb) sees
          (λ e _ s r i. omega (arith, g.looks e s r i, kept s.turn (near l b g s.turn (omega arith) (rule e (looked s) r).0)));
    }

    -- no row is marked, and claimed stands too
    pub quiet_matches : (tb : List Block)
        → ((u : ℕ) → Window (size_in l) p u → ((record_of (size_in l) tb u).written ≡ (here l u).written) × ((record_of (size_in l) tb u).claimed ≡ (here l u).claimed)) → Sees tb x
        → Matches (size_in l) (changed tb) (B.with_desk b d (as_row (size_in l) x))
    quiet_matches tb kept sees =
        desk_matches tb b.rows (λ u w. let e = kept u w in (e.0, omega arith)) sees refl (λ m. refl)
        (λ u q i. g.marks u q i ∙ ap (ltb q) (sym (front_same (size_in l) l (changed tb) u refl refl refl (λ a n. (kept u (near l b g u (omega arith) n)).1))))

    -- the desk changes alone
    pub alone_matches : Sees l.table x → Matches (size_in l) (changed l.table) (B.with_desk b d (as_row (size_in l) x))
    alone_matches = quiet_matches l.table (λ u w. (refl, refl))
