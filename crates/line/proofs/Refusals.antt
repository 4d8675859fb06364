-- When a step that is no order is refused, and what the refusal leaves.
-- A deed is followed test by test: `Says e` says of an outcome that a refusal has the value 0 and that its sentence of
-- specs/Refusals.antt holds. The other way round, a sentence settles each test of its deed, and so the answer (`when_refused`).
-- What a refusal leaves is found by following the deeds again; that needs no sound line.
use Rattle.std.proofs.Common.{◌≡◌, ℕ, ◌+◌, ◌-◌, ◌<◌, ◌≤◌, Bool, true, false, not, ◌&&◌, T, ◌≢◌, ◌⊎◌, ◌↔◌, refl, subst, inl, inr, ⊎_elim, le_trans, eqb→eq, ltb→lt, leb→le, nltb→le, T_not, lt-ltb, le-ltb, le-leb}
use Rattle.std.proofs.lemmas.Bool.{lt-leb}
use Rattle.std.proofs.Math.Bool.{and-false}
use Rattle.std.proofs.Math.Dec.{not_T, nleb→lt}
use Rattle.std.proofs.Math.Nat.{mod-le}
use Rattle.words.specs.declared.Answer.{Answer}
use Rattle.words.specs.declared.Answer.TheVariants.{Put, Got, Took, Whole, Seen, Claimed, Done, Refused}
use Rattle.words.specs.declared.Refusal.{Refusal}
use Rattle.words.specs.declared.Refusal.TheVariants.{Unfit, Damaged, Badstep, Nodesk, Noblock, Stage, Owned, Nothing, Lost, Notlabel, Range, Worn, Full, Busy, Empty}
use Rattle.book.specs.Choice.{◌<ᵇ◌, ◌≤ᵇ◌, ◌≡ᵇ◌}
use Rattle.book.specs.Sizes.{Size, highest_label, is_label, is_order, block_of, round_of, is_used, current_turn, is_owned}
use Rattle.book.specs.declared.DeskStep.{DeskStep}
use Rattle.book.specs.declared.DeskStep.TheVariants.{Look as look, Claim as claim, Fetch as fetch, Finish as finish}
use Rattle.book.specs.declared.Deed.{Deed}
use Rattle.book.specs.declared.Deed.TheVariants.{Put as put, Get as get, Order as order, Desk as desk, Unlisted as unlisted}
use Rattle.book.specs.Steps.{Step, decode}
use Rattle.book.specs.Steps.{Desk, idle, looked, Hold, holding, claimed_at, is_fetched, hold_of}
use Rattle.book.specs.Verdicts.{Verdict, refuses, judge, stage, column, at_stage, no_block, admitted, lookable, startable, placeable}
use Rattle.book.proofs.Choice.{by_test, by_verdict, cases, T→true, not→false, and_first, and_second}
use Rattle.book.proofs.Choice.{eq→eqb, eqb_same}
use Rattle.book.proofs.Turns.{current_low}
use Rattle.line.specs.Line.{Line, Outcome, Block, Spot, nowhere, refuse, desk_at, get_at, with_head, size_of, record_of, is_busy, may_put, put_step, order_step, read_at, get_step, size_in, here}
use Rattle.line.specs.Line.{desk_does, desk_step, does}
use Rattle.line.specs.Line as L
use Rattle.line.specs.Rules.{Current, Sound}
use Rattle.line.specs.Check.{check}
use Rattle.line.specs.Calls.{step, passes}
use Rattle.line.specs.Refusals.{OnLine, Takes, Starts, When}
use Rattle.line.specs.Demands.{RefusedWhen, RefusedLeaves, HeadAlone, LostLeaves, EmptyLeaves}
use Rattle.line.proofs.DeskMoves.{look_step, winnable, claim_step, fetch_step, finish_step, does_look, does_claim, does_fetch, does_finish}
use Rattle.line.proofs.Check.{blocks}
use Rattle.line.proofs.Empty.{reached, is_read, end, empty_when, empty_end}
use Rattle.line.proofs.Guards.{step_does}

-- ---- tests, and answers

not_not : (b : Bool) → T (not (not b)) → T b
not_not true t = t
not_not false t = t

pub out_of_range : (a b : ℕ) → T (not (is_order a b)) ↔ ((b < a) ⊎ (highest_label < b))
unfolding is_order is_label
out_of_range a b =
    let low = a ≤ᵇ b in (
      λ n. cases low (λ t. inr (nleb→lt b highest_label (rw (T→true low t) at n))) (λ t. inl (nleb→lt a b t)),
      ⊎_elim (λ h. rw (lt-leb a b h) tt) (λ h. rw (lt-leb b highest_label h, and-false low) tt),
    )

-- what is said of WHOLE and of a refusal; of another answer nothing is said
abbrev pub OfAnswer : (ℕ → Type 0) → (Refusal → ℕ → Type 0) → Answer → Type 0
OfAnswer W R (Put a) = Unit {0}
OfAnswer W R (Got a) = Unit {0}
OfAnswer W R (Took a) = Unit {0}
OfAnswer W R (Whole n) = W n
OfAnswer W R (Seen q) = Unit {0}
OfAnswer W R (Claimed q) = Unit {0}
OfAnswer W R Done = Unit {0}
OfAnswer W R (Refused w n) = R w n

abbrev OfRefusal : (Refusal → ℕ → Type 0) → Answer → Type 0
OfRefusal R a = OfAnswer (λ _. Unit {0}) R a

abbrev NoOrder : Deed → Type 0
NoOrder e = (a b : ℕ) → e ≢ order a b

module _ (l : Line) where
  abbrev P : ℕ
  P = l.head.p

  abbrev K : ℕ
  K = l.head.k

  abbrev NB : ℕ
  NB = l.head.nb

  -- what is owed by an answer; by an outcome; by a deed that a verdict decides, with outcome o where it takes
  abbrev Sentence : Deed → Refusal → ℕ → Type 0
  Sentence e w n = When l w e × (n ≡ 0)

  abbrev Says : Deed → Outcome → Type 0
  Says e o = OfRefusal (Sentence e) o.answer

  abbrev Judged : Deed → Outcome → Verdict → Type 0
  Judged e o v = Says e (judge v o (refuse l))

  -- ---- put

  abbrev next : ℕ
  next = P + 1

  put_told : (a : ℕ) → Says (put a) (put_step (size_in l) l a)
  unfolding put_step may_put placeable startable is_label
  put_told a =
      let J = Judged (put a) _ in
      let c = here l P in
      let q = next - NB in
      by_test J (not (is_label a)) (λ n. ((a, refl, nleb→lt a highest_label n), refl)) (λ n.
      by_test J (c.written <ᵇ l.head.ne) (λ _. tt) (λ f.
      let s : Starts l a = record { label = leb→le a highest_label (not_not (is_label a) n); full = nltb→le c.written l.head.ne f } in
      by_test J (65536 ≤ᵇ round_of (size_in l) next) (λ r. ((a, refl, s, leb→le 65536 (round_of (size_in l) next) r), refl)) (λ r.
      let low = nleb→lt 65536 (round_of (size_in l) next) r in
      by_test J (next <ᵇ NB) (λ _. tt) (λ b.
      let back = nltb→le next NB b in
      by_test J (K ≤ᵇ q) (λ k. ((a, refl, s, low, back, leb→le K q k), refl)) (λ k.
      let over = nleb→lt K q k in
      by_test J (is_busy (here l q)) (λ h. ((a, refl, s, low, back, over, ltb→lt (here l q).finished (here l q).claimed h), refl)) (λ _. tt))))))

  starts : (a : ℕ) → Starts l a → may_put (size_in l) l a ≡ startable (size_in l) K (is_busy (here l (next - NB))) next
  unfolding may_put placeable is_label
  starts a s = rw (le-leb a highest_label s.label, le-ltb (here l P).written l.head.ne s.full)

  put_refused : (a : ℕ) (w : Refusal) → may_put (size_in l) l a ≡ refuses w → (put_step (size_in l) l a).answer ≡ Refused w 0
  unfolding put_step
  put_refused a w e = rw e

  -- the sentence of RANGE is of an order, so no put is refused so
  pub put_range : (a : ℕ) → may_put (size_in l) l a ≢ refuses Range
  put_range a e =
      let (b, c, q, _) = (subst (OfRefusal (Sentence (put a))) (put_refused a Range e) (put_told a)).0 in
      cc

  -- ---- look at block i, with its current turn t

  abbrev turn_at : ℕ → ℕ
  turn_at i = current_turn (size_in l) P i

  module _ (i : ℕ) where
    abbrev t : ℕ
    t = turn_at i

    abbrev c : Block
    c = here l t

    abbrev used : Bool
    used = is_used (size_in l) P i

    abbrev none : Bool
    none = c.claimed ≡ᵇ c.written

    -- an unused block, or one where nothing waits
    abbrev Bare : Type 0
    Bare = (P < i) ⊎ ((i ≤ P) × (K < t) × (c.claimed ≡ c.written))

    bare : T (not (is_owned (size_in l) P K i)) → T (not (used && not none)) → Bare
    unfolding is_owned
    bare o n =
        cases used
        (λ u. let e = T→true used u in inr (leb→le i P u, nleb→lt t K (rw e at o), eqb→eq c.claimed c.written (not_not none (rw e at n))))
        (λ u. inl (nleb→lt i P u))

    bare_refused : Bare → lookable (size_in l) P K i (not none) ≡ refuses Nothing
    unfolding lookable is_owned
    bare_refused =
        ⊎_elim (λ h. rw (lt-leb i P h))
        (λ h. rw (le-leb i P h.0, lt-leb t K h.1, T→true none (eq→eqb c.claimed c.written h.2)))

    look_told : (d : ℕ) → Takes l d (look i) → Says (desk d (look i)) (look_step (size_in l) l d i)
    unfolding look_step lookable is_owned
    look_told d k =
        let J = Judged (desk d (look i)) _ in
        let low = t ≤ᵇ K in
        by_test J (used && low) (λ o. ((d, i, refl, k, leb→le i P (and_first used low o), leb→le t K (and_second used low o)), refl)) (λ o.
        by_test J (used && not none) (λ _. tt) (λ n. ((d, i, refl, k, bare o n), refl)))

  -- ---- claim of spot s

  -- a current turn's block is used, and so it is owned exactly if the turn is at most K
  owned : (u : ℕ) → Current l u → is_owned (size_in l) P K (block_of (size_in l) u) ≡ (u ≤ᵇ K)
  unfolding is_owned
  owned u e =
      let low : u ≤ P = rw e at (current_low (size_in l) P (block_of (size_in l) u)) in
      rw (le-leb (block_of (size_in l) u) P (le_trans (mod-le u NB) low), e)

  module _ (s : Spot) where
    abbrev u : ℕ
    u = s.turn

    abbrev Wins : Type 0
    Wins = Current l u × (K < u) × ((here l u).claimed ≡ s.place)

    wins : T (winnable (size_in l) l s) → Wins
    unfolding winnable L.wins
    wins w =
        let e : Current l u = eqb→eq (turn_at (block_of (size_in l) u)) u (search and_first) in
        let f : T (not (is_owned (size_in l) P K (block_of (size_in l) u))) = search (and_first, and_second) in
        (e, nleb→lt u K (rw (owned u e) at f), eqb→eq (here l u).claimed s.place (search and_second))

    won : Wins → T (winnable (size_in l) l s)
    unfolding winnable L.wins
    won h = let (e, k, q) = h in rw (owned u e, lt-leb u K k, e, eqb_same u, q, eqb_same s.place) tt

    claim_told : (d : ℕ) → d < l.head.t → desk_at l.head d ≡ looked s → Says (desk d claim) (claim_step (size_in l) l d s)
    unfolding claim_step
    claim_told d h e = by_test (Says (desk d claim)) (winnable (size_in l) l s) (λ _. tt) (λ n. ((d, s, refl, h, e, λ w. T_not (winnable (size_in l) l s) n (won w)), refl))

  -- ---- the desks' steps

  on_line : (s : DeskStep) → T (not (no_block (size_in l) s)) ↔ OnLine l s
  on_line (look i) = (nleb→lt NB i, λ h. rw (lt-leb NB i h) tt)
  on_line claim = (λ n. n, λ h. h)
  on_line fetch = (λ n. n, λ h. h)
  on_line finish = (λ n. n, λ h. h)

  off_line : (d : ℕ) (s : DeskStep) → d < l.head.t → T (no_block (size_in l) s) → When l Noblock (desk d s)
  off_line d (look i) h b = (d, i, refl, h, leb→le NB i b)
  off_line d claim h b = absurd b
  off_line d fetch h b = absurd b
  off_line d finish h b = absurd b

  module _ (d : ℕ) (h : d < l.head.t) where
    stage_told : (s : DeskStep) → OnLine l s → at_stage (stage (desk_at l.head d)) (column s) ≡ refuses Stage → Says (desk d s) (refuse l Stage)
    stage_told s o g = ((d, s, refl, h, o, g), refl)

    -- the grid, a stage at a time
    abbrev At : ℕ → Hold Spot → DeskStep → Type 0
    At n x s = Judged (desk d s) (desk_does (size_in l) l d x s) (at_stage n (column s))

    looks : (i : ℕ) (x : Hold Spot) → Takes l d (look i) → At 0 x (look i)
    looks i x k = rw (does_look (size_in l) l d x i) (look_told i d k)

    module _ (x : Hold Spot) (e : desk_at l.head d ≡ holding x) where
      claimed_told : T (not (is_fetched x)) → (s : DeskStep) → OnLine l s → At 2 x s
      unfolding fetch_step
      claimed_told u (look i) o = stage_told (look i) o (rw (e, not→false (is_fetched x) u))
      claimed_told u claim o = stage_told claim o (rw (e, not→false (is_fetched x) u))
      claimed_told u fetch o = rw (does_fetch (size_in l) l d x) tt
      claimed_told u finish o = stage_told finish o (rw (e, not→false (is_fetched x) u))

      fetched_told : T (is_fetched x) → (s : DeskStep) → OnLine l s → At 3 x s
      unfolding finish_step
      fetched_told f (look i) o = stage_told (look i) o (rw (e, T→true (is_fetched x) f))
      fetched_told f claim o = stage_told claim o (rw (e, T→true (is_fetched x) f))
      fetched_told f fetch o = stage_told fetch o (rw (e, T→true (is_fetched x) f))
      fetched_told f finish o = rw (does_finish (size_in l) l d x) tt

    grid_told : (x : Desk Spot) (s : DeskStep) → desk_at l.head d ≡ x → OnLine l s → At (stage x) (hold_of nowhere x) s
    grid_told idle (look i) e o = looks i _ (record { there = h; on = o; grid = rw e })
    grid_told idle claim e o = stage_told claim o (rw e)
    grid_told idle fetch e o = stage_told fetch o (rw e)
    grid_told idle finish e o = stage_told finish o (rw e)
    grid_told (looked s) (look i) e o = looks i _ (record { there = h; on = o; grid = rw e })
    grid_told (looked s) claim e o = rw (does_claim (size_in l) l d (claimed_at s)) (claim_told s d h e)
    grid_told (looked s) fetch e o = stage_told fetch o (rw e)
    grid_told (looked s) finish e o = stage_told finish o (rw e)
    grid_told (holding x) s e o = by_test (λ n. At n x s) (is_fetched x) (λ f. fetched_told x e f s o) (λ u. claimed_told x e u s o)

  desk_told : (d : ℕ) (s : DeskStep) → Says (desk d s) (desk_step (size_in l) l d s (desk_at l.head d))
  unfolding desk_step admitted
  desk_told d s =
      let J = Judged (desk d s) _ in
      by_test J (l.head.t ≤ᵇ d) (λ n. ((d, s, refl, leb→le l.head.t d n), refl)) (λ n.
      let h = nleb→lt l.head.t d n in
      by_test J (no_block (size_in l) s) (λ b. (off_line d s h b, refl)) (λ b. grid_told d h (desk_at l.head d) s refl ((on_line s).0 b)))

  takes_step : (d : ℕ) (s : DeskStep) → Takes l d s → does (size_in l) l (desk d s) ≡ desk_does (size_in l) l d (hold_of nowhere (desk_at l.head d)) s
  unfolding does desk_step admitted
  takes_step d s k = rw (lt-leb l.head.t d k.there, not→false (no_block (size_in l) s) ((on_line s).1 k.on), k.grid)

  -- ---- every deed, on a sound line

  module _ (pos : 0 < NB) (g : Sound l) where
    told : (e : Deed) → NoOrder e → Says e (does (size_in l) l e)
    unfolding does get_step read_at
    told (put a) n = put_told a
    told get n = by_test (Says get) (is_read l (reached l)) (λ _. tt) (λ f. let (r, c) = (empty_when l pos g).0 f in ((refl, r, c), refl))
    told (order a b) n = absurd (n a b refl)
    told (desk d s) n = desk_told d s
    told unlisted n = (refl, refl)

    -- and a sentence settles the tests of its deed
    pub when_refused : (w : Refusal) (e : Deed) → When l w e → (does (size_in l) l e).answer ≡ Refused w 0
    unfolding does put_step may_put placeable startable is_label order_step get_step read_at desk_step admitted look_step lookable is_owned claim_step
    when_refused Unfit e h = absurd h
    when_refused Damaged e h = absurd h
    when_refused Badstep e h = rw h
    when_refused Nodesk e h = let (d, s, q, n) = h in rw (q, le-leb l.head.t d n)
    when_refused Noblock e h = let (d, i, q, t, n) = h in rw (q, lt-leb l.head.t d t, le-leb NB i n)
    when_refused Stage e h = let (d, s, q, t, o, n) = h in rw (q, lt-leb l.head.t d t, not→false (no_block (size_in l) s) ((on_line s).1 o), n)
    when_refused Owned e h = let (d, i, q, k, u, o) = h in rw (q, takes_step d (look i) k, does_look (size_in l) l d, le-leb i P u, le-leb (turn_at i) K o)
    when_refused Nothing e h = let (d, i, q, k, n) = h in rw (q, takes_step d (look i) k, does_look (size_in l) l d, bare_refused i n)
    when_refused Lost e h =
        let (d, s, q, t, x, n) = h in
        rw (q, lt-leb l.head.t d t, x, does_claim (size_in l) l d (claimed_at s), not→false (winnable (size_in l) l s) (not_T (winnable (size_in l) l s) (λ w. n (wins s w))))
    when_refused Notlabel e h = let (a, q, n) = h in rw (q, lt-leb a highest_label n)
    when_refused Range e h = let (a, b, q, n) = h in rw (q, not→false (is_order a b) ((out_of_range a b).1 n))
    when_refused Worn e h = let (a, q, s, r) = h in rw (q, starts a s, le-leb 65536 (round_of (size_in l) next) r)
    when_refused Full e h =
        let (a, q, s, r, b, k) = h in
        rw (q, starts a s, lt-leb 65536 (round_of (size_in l) next) r, le-ltb next NB b, le-leb K (next - NB) k)
    when_refused Busy e h =
        let (a, q, s, r, b, k, n) = h in
        let c = here l (next - NB) in
        rw (q, starts a s, lt-leb 65536 (round_of (size_in l) next) r, le-ltb next NB b, lt-leb K (next - NB) k, lt-ltb c.finished c.claimed n)
    when_refused Empty e h = let (q, r, c) = h in rw (q, not→false (is_read l (reached l)) ((empty_when l pos g).1 (r, c)))

pub refused_when : RefusedWhen
unfolding RefusedWhen
refused_when l s w n f g x =
    let pos = blocks l f in
    let e = decode s in
    rw (step_does l s f g) (λ q. subst (OfRefusal (Sentence l e)) q (told l pos g e x), λ h. rw h.1 (when_refused l pos g w e h.0))

-- ---- what a refusal leaves, on any line

module _ (l : Line) where
  -- LOST and EMPTY change the head alone, the others nothing
  abbrev Leaves : Line → Refusal → ℕ → Type 0
  Leaves m w n = (w ≢ Lost → w ≢ Empty → m ≡ l) × (m.table ≡ l.table) × (m.entries ≡ l.entries)

  abbrev Left : Outcome → Type 0
  Left o = OfRefusal (Leaves o.line) o.answer

  stays : (w : Refusal) → Left (refuse l w)
  stays w = (λ _ _. refl, refl, refl)

  module _ (z : Size) where
    read_left : (s : Spot) → Left (read_at z l s)
    unfolding read_at
    read_left s = by_test Left (s.place <ᵇ (record_of z l.table s.turn).written) (λ _. tt) (λ _. (λ _ h. absurd (h refl), refl, refl))

    desk_left : (d : ℕ) (x : Hold Spot) (s : DeskStep) → Left (desk_does z l d x s)
    unfolding look_step claim_step fetch_step finish_step
    desk_left d x (look i) = rw (does_look z l d x i) (by_verdict Left (lookable z l.head.p l.head.k i _) (λ _. tt) (λ w _. stays w))
    desk_left d x claim = rw (does_claim z l d x) (by_test Left (winnable z l x.at) (λ _. tt) (λ _. (λ h _. absurd (h refl), refl, refl)))
    desk_left d x fetch = rw (does_fetch z l d x) tt
    desk_left d x finish = rw (does_finish z l d x) tt

    does_left : (e : Deed) → NoOrder e → Left (does z l e)
    unfolding does put_step get_step desk_step
    does_left (put a) n = by_verdict Left (may_put z l a) (λ _. tt) (λ w _. stays w)
    does_left get n = read_left _
    does_left (order a b) n = absurd (n a b refl)
    does_left (desk d s) n =
        let x = desk_at l.head d in
        by_verdict Left (admitted z d s x) (λ _. desk_left d (hold_of nowhere x) s) (λ w _. stays w)
    does_left unlisted n = stays Badstep

  step_left : (s : Step) → NoOrder (decode s) → Left (step l s)
  unfolding step
  step_left s n = by_verdict Left (passes (check l)) (λ _. does_left (size_of l.head) (decode s) n) (λ w _. stays w)

  refusal_left : (s : Step) (w : Refusal) (n : ℕ) → NoOrder (decode s) → (step l s).answer ≡ Refused w n → Leaves (step l s).line w n
  refusal_left s w n x e = subst (OfRefusal (Leaves (step l s).line)) e (step_left s x)

pub refused_leaves : RefusedLeaves
unfolding RefusedLeaves
refused_leaves l s w n x e = (refusal_left l s w n x e).0

pub head_alone : HeadAlone
unfolding HeadAlone
head_alone l s w n x e = let (_, t, c) = refusal_left l s w n x e in (t, c)

-- ---- LOST and EMPTY

pub lost_leaves : LostLeaves
unfolding LostLeaves RefusedWhen does desk_step admitted claim_step
lost_leaves l s n f g x e =
    let (d, y, q, t, k, o) = ((refused_when l s Lost n f g x).0 e).0 in
    let z = size_of l.head in
    let w = winnable z l y in
    (d, q, rw (step_does l s f g, q, lt-leb l.head.t d t, k, does_claim z l d (claimed_at y), not→false w (not_T w (λ v. o (wins l y v)))) refl)

-- a get that is refused leaves K at P, and turn P read to its end
abbrev Ended : Line → Outcome → Type 0
Ended l o = OfRefusal (λ _ _. o.line ≡ with_head l (get_at l.head (end l))) o.answer

pub empty_leaves : EmptyLeaves
unfolding EmptyLeaves does get_step read_at
empty_leaves l s n f g q =
    let o = read_at (size_of l.head) l (reached l) in
    let h : Ended l o = by_test (Ended l) (is_read l (reached l)) (λ _. tt) (λ r. rw (empty_end l (blocks l f) g r) refl) in
    rw (step_does l s f g, q) (λ e. subst (OfRefusal (λ _ _. o.line ≡ with_head l (get_at l.head (end l)))) e h)
