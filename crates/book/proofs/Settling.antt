-- The desks in turn fetch what they have claimed and finish what they have fetched: then no desk holds a row, and rows and K are as
-- they were. The desks below d have done so, and those from d on are the list that is left.
use Rattle.std.proofs.Common.{◌≡◌, ℕ, zero, suc, ◌+◌, ◌*◌, ◌<◌, ◌≤◌, not, T, eqb, ltb, List, [], ◌∷◌, ◌++◌, map, length, get_or, sym, refl, ap, ◌∙◌, le_of_suc-le-suc, not-suc-le-zero, arith, eqb→eq, ltb→lt, nltb→le, length-set, get_or-set_other, get_or-set_same}
use Rattle.std.proofs.lemmas.Bool.{lt-leb}
use Rattle.std.proofs.Math.ListN.{get_or-eq_default}
use Rattle.book.specs.Total.{up_from}
use Rattle.book.specs.Sizes.{Size}
use Rattle.book.specs.Steps.{fetch, finish, Deed, desk, unlisted, decode, Hold, Desk, idle, looked, holding, with_fetched, is_fetched}
use Rattle.book.specs.Verdicts.{admitted}
use Rattle.book.specs.Book.{Book, desk_at, with_desk, fetch_step, finish_step, desk_does, desk_step, does, step, after}
use Rattle.book.specs.Messages as M
use Rattle.book.specs.Clearing.{settling}
use Rattle.book.proofs.Choice.{by_test, cases, neq_test, T→true, not→false}
use Rattle.book.proofs.DeskKinds.{Free}

-- ---- the codes of a fetch and a finish

-- two functions that agree on a list of n numbers agree on each of them
up_at : (f : ℕ → Deed) (n a d : ℕ) → d < n → get_or (map f (up_from n a)) d unlisted ≡ f (a + d)
up_at f zero a d h = absurd (not-suc-le-zero h)
up_at f (suc n) a zero h = let e : a + 0 ≡ a = omega arith in rw e refl
up_at f (suc n) a (suc d) h = let e : a + suc d ≡ suc a + d = omega arith in rw e (up_at f n (suc a) d (le_of_suc-le-suc h))

each_desk : (f g : ℕ → Deed) → map f (up_from 16 0) ≡ map g (up_from 16 0) → (d : ℕ) → d < 16 → f d ≡ g d
each_desk f g e d h =
    let z : 0 + d ≡ d = omega arith in
    rw z at (sym (up_at f 16 0 d h) ∙ ap (λ (l : List Deed). get_or l d unlisted) e ∙ up_at g 16 0 d h)

decode_fetch : (d : ℕ) → d < 16 → decode (M.fetch d) ≡ desk d fetch
unfolding decode
decode_fetch = each_desk (λ d. decode (M.fetch d)) (λ d. desk d fetch) refl

decode_finish : (d : ℕ) → d < 16 → decode (M.finish d) ≡ desk d finish
unfolding decode
decode_finish = each_desk (λ d. decode (M.finish d)) (λ d. desk d finish) refl

-- at most two steps for each desk
pub settling_length : {A : Type 0} (d : ℕ) (l : List (Desk A)) → length (settling d l) ≤ 2 * length l
unfolding settling
settling_length d [] = omega arith
settling_length d (idle ∷ l) = omega (arith, settling_length (suc d) l)
settling_length d (looked x ∷ l) = omega (arith, settling_length (suc d) l)
settling_length d (holding h ∷ l) =
    let more = settling_length (suc d) l in
    by_test (λ ss. length (ss ++ settling (suc d) l) ≤ 2 * suc (length l)) (is_fetched h) (λ _. omega arith) (λ _. omega arith)

module _ (z : Size) (few : z.t ≤ 16) where
  module _ (b : Book) (d : ℕ) (h : Hold ℕ) (i : d < z.t) (e : desk_at b d ≡ holding h) where
    step_fetch : T (not (is_fetched h)) → (step z b (M.fetch d)).book ≡ with_desk b d (holding (with_fetched h))
    unfolding step does desk_step admitted desk_does fetch_step
    step_fetch u = rw (decode_fetch d (omega arith), e, lt-leb z.t d i, not→false (is_fetched h) u) refl

    step_finish : T (is_fetched h) → (step z b (M.finish d)).book ≡ with_desk b d idle
    unfolding step does desk_step admitted desk_does finish_step
    step_finish f = rw (decode_finish d (omega arith), e, lt-leb z.t d i, T→true (is_fetched h) f) refl

  -- ---- the walk over the desks

  record Halfway (d : ℕ) (l : List (Desk ℕ)) (b : Book) : Type 0 where
    many : length b.desks ≡ z.t
    left : length l + d ≡ z.t
    same : (i : ℕ) → get_or l i idle ≡ desk_at b (d + i)
    free : (c : ℕ) → c < d → Free (desk_at b c)

  module _ (d : ℕ) (x : Desk ℕ) (l : List (Desk ℕ)) (b : Book) (h : Halfway d (x ∷ l) b) where
    here : desk_at b d ≡ x
    here = let e : d + 0 ≡ d = omega arith in sym (rw e at (h.same 0))

    inside : d < z.t
    inside = omega (arith, h.left)

    -- the desk holds no row: on to the next
    passes : Free x → Halfway (suc d) l b
    passes f = record {
      many = h.many;
      left = omega (arith, h.left);
      same = λ i. let e : d + suc i ≡ suc d + i = omega arith in rw e at (h.same (suc i));
      free = λ c q. cases (eqb c d) (λ t. rw (eqb→eq c d t, here) f) (λ t. let n = neq_test c d t in h.free c (omega arith));
    }

    same_after : (y : Desk ℕ) (i : ℕ) → get_or (y ∷ l) i idle ≡ desk_at (with_desk b d y) (d + i)
    same_after y zero = let e : d + 0 ≡ d = omega arith in rw e (sym (get_or-set_same b.desks d y idle (omega (arith, h.many, h.left))))
    same_after y (suc i) = h.same (suc i) ∙ sym (get_or-set_other b.desks d (d + suc i) y idle (λ e. omega arith))

    becomes : (y : Desk ℕ) → Halfway d (y ∷ l) (with_desk b d y)
    becomes y = record {
      many = length-set b.desks d y ∙ h.many;
      left = h.left;
      same = same_after y;
      free = λ c q. rw (get_or-set_other b.desks d c y idle (λ e. omega arith)) (h.free c q);
    }

  -- no desk holds a row, and rows and K are as they were
  pub record Settled (b c : Book) : Type 0 where
    pub rows : c.rows ≡ b.rows
    pub turn : c.k ≡ b.k
    pub free : (d : ℕ) → Free (desk_at c d)

  settled_from : (b c e : Book) → c.rows ≡ b.rows → c.k ≡ b.k → Settled c e → Settled b e
  settled_from b c e r k w = record { rows = w.rows ∙ r; turn = w.turn ∙ k; free = w.free }

  walk : (l : List (Desk ℕ)) (d : ℕ) (b : Book) → Halfway d l b → Settled b (after z b (settling d l))
  unfolding settling after
  walk [] d b h = record {
    rows = refl;
    turn = refl;
    free = λ c. cases (ltb c d) (λ t. h.free c (ltb→lt c d t)) (λ t. rw (get_or-eq_default b.desks idle {n = c} (omega (arith, h.many, h.left, nltb→le c d t))) tt);
  }
  walk (idle ∷ l) d b h = walk l (suc d) b (passes d idle l b h tt)
  walk (looked r ∷ l) d b h = walk l (suc d) b (passes d (looked r) l b h tt)
  walk (holding x ∷ l) d b h =
      -- the desk lets go in book c, and the others follow
      let rest : (c : Book) → c.rows ≡ b.rows → c.k ≡ b.k → Halfway d (idle ∷ l) (with_desk c d idle) → Settled b (after z (with_desk c d idle) (settling (suc d) l)) =
      λ c r k o. let e = with_desk c d idle in settled_from b e _ r k (walk l (suc d) e (passes d idle l e o tt)) in
      by_test (λ ss. Settled b (after z b (ss ++ settling (suc d) l))) (is_fetched x)
      (λ f. rw (after, step_finish b d x (inside d (holding x) l b h) (here d (holding x) l b h) f) (rest b refl refl (becomes d (holding x) l b h idle)))
      (λ u. let y = with_fetched x in
      let c = with_desk b d (holding y) in
      let g = becomes d (holding x) l b h (holding y) in
      rw (after, step_fetch b d x (inside d (holding x) l b h) (here d (holding x) l b h) u, step_finish c d y (inside d (holding y) l c g) (here d (holding y) l c g) tt)
      (rest c refl refl (becomes d (holding y) l c g idle)))

  pub settled : (b : Book) → length b.desks ≡ z.t → Settled b (after z b (settling 0 b.desks))
  settled b h = walk b.desks 0 b (record {
    many = h;
    left = omega arith;
    same = λ i. let e : 0 + i ≡ i = omega arith in rw e refl;
    free = λ c q. absurd (omega arith);
  })
