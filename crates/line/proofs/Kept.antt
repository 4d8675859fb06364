-- What several steps share. One desk changes: it reads as it was written, every other desk as before; the holders of a turn are
-- as many but for that desk; and rule 3 is kept if the new desk obeys it and takes no spot that another desk holds. The record
-- of one turn changes: every other turn of the window has the record that it had, so only that one turn is looked at; and where
-- neither claimed nor written falls, rules 2 and 3 are kept.
use Rattle.std.proofs.Common.{◌≡◌, ℕ, ◌+◌, ◌<◌, ◌≤◌, eqb, ◌≢◌, List, length, get_or, set, refl, ap, ◌∙◌, arith, eqb→eq, length-set, get_or-set_other, get_or-set_same, ne_eqb}
use Rattle.book.specs.Sizes.{Size, block_of}
use Rattle.book.specs.Steps.{Desk, idle, looked, holding, is_fetched}
use Rattle.book.proofs.Choice.{cases, neq_test, eqb_same, by_test, T→true, not→false}
use Rattle.book.proofs.Total.{total_set}
use Rattle.line.specs.Line.{Line, LentDesk, Block, Head, Spot, numbers_of, desk_of, desk_at, with_desk, with_head, size_in, here}
use Rattle.line.specs.Rules.{held_in, Holds, Current, DeskRule, Rule3}
use Rattle.line.proofs.Current.{current→window, record_later, each_turn}
use Rattle.line.proofs.Cells.{held, Stands}
use Rattle.line.proofs.ByTurns.{In, ByTurns, some_block}

-- ---- a desk as its numbers

pub desk_lent : (x : Desk Spot) → desk_of (numbers_of x) ≡ x
unfolding desk_of
desk_lent idle = refl
desk_lent (looked s) = refl
desk_lent (holding h) =
    let f = is_fetched h in
    cases f (λ t. rw (T→true f t) refl) (λ t. rw (not→false f t) refl)

stage_lent : (x : Desk Spot) → (numbers_of x).stage ≤ 3
stage_lent idle = omega arith
stage_lent (looked s) = omega arith
stage_lent (holding h) = by_test (λ n. n ≤ 3) (is_fetched h) (λ _. omega arith) (λ _. omega arith)

-- ---- a desk that holds a spot

pub held_one : (x : Desk Spot) (s : Spot) → Holds x s → held_in s.turn x ≡ 1
held_one idle s h = absurd h
held_one (looked x) s h = absurd h
held_one (holding x) s h = rw (h, eqb_same s.turn) refl

pub held_none : (x : Desk Spot) (t : ℕ) → ((s : Spot) → Holds x s → s.turn ≢ t) → held_in t x ≡ 0
held_none idle t h = refl
held_none (looked x) t h = refl
held_none (holding x) t h = rw (ne_eqb x.at.turn t (h x.at refl)) refl

pub held_rule : (l : Line) (x : Desk Spot) (s : Spot) → Holds x s → DeskRule l x → Current l s.turn × (s.place < (here l s.turn).claimed)
held_rule l idle s h o = absurd h
held_rule l (looked x) s h o = absurd h
held_rule l (holding x) s h o = rw h at o

-- ---- one desk changes

module _ (h : Head) (d : ℕ) (x : Desk Spot) (there : d < length h.desks) where
  pub desk_own : desk_at (with_desk h d x) d ≡ x
  desk_own = ap desk_of (get_or-set_same h.desks d (numbers_of x) (numbers_of idle) there) ∙ desk_lent x

  pub desk_other : (e : ℕ) → e ≢ d → desk_at (with_desk h d x) e ≡ desk_at h e
  desk_other e n = ap desk_of (get_or-set_other h.desks d e (numbers_of x) (numbers_of idle) n)

  -- what holds of the new desk, and of every other one as it was
  pub each_desk : (Q : ℕ → Desk Spot → Type 0) → Q d x → ((e : ℕ) → e ≢ d → Q e (desk_at h e)) → (e : ℕ) → Q e (desk_at (with_desk h d x) e)
  each_desk Q new old e =
      cases (eqb e d)
      (λ s. rw (eqb→eq e d s, desk_own) new)
      (λ s. let n = neq_test e d s in rw (desk_other e n) (old e n))

  pub holders_set : (t : ℕ) → held (set h.desks d (numbers_of x)) t + held_in t (desk_at h d) ≡ held h.desks t + held_in t x
  holders_set t = rw (desk_lent x) at (total_set (λ (y : LentDesk). held_in t (desk_of y)) h.desks d (numbers_of x) (numbers_of idle) there)

-- no spot is held by both
abbrev pub Apart : Desk Spot → Desk Spot → Type 0
Apart x y = (s : Spot) → Holds x s → Holds y s → ⊥

module _ (l : Line) (d : ℕ) (x : Desk Spot) (there : d < length l.head.desks) (o : Rule3 l) (new : (e : ℕ) → e ≢ d → Apart x (desk_at l.head e)) where
  abbrev h : Head
  h = l.head

  abbrev h' : Head
  h' = with_desk h d x

  each : (Q : ℕ → Desk Spot → Type 0) → Q d x → ((e : ℕ) → e ≢ d → Q e (desk_at h e)) → (e : ℕ) → Q e (desk_at h' e)
  each = each_desk h d x there

  apart_desk : (i e : ℕ) → i ≢ e → Apart (desk_at h' i) (desk_at h' e)
  apart_desk =
      each (λ (i : ℕ) (y : Desk Spot). (e : ℕ) → i ≢ e → Apart y (desk_at h' e))
      (each (λ (e : ℕ) (y : Desk Spot). d ≢ e → Apart x y) (λ n. absurd (n refl)) (λ e n _. new e n))
      (λ i n. each (λ (e : ℕ) (y : Desk Spot). i ≢ e → Apart (desk_at h i) y) (λ _ s a b. new i n s b a) (λ e _ k s. o.apart i e s k))

  stages_desk : (e : ℕ) → (get_or h'.desks e (numbers_of idle)).stage ≤ 3
  stages_desk e =
      cases (eqb e d)
      (λ s. rw (eqb→eq e d s, get_or-set_same h.desks d (numbers_of x) (numbers_of idle) there) (stage_lent x))
      (λ s. rw (get_or-set_other h.desks d e (numbers_of x) (numbers_of idle) (neq_test e d s)) (o.stages e))

  pub three_desk : d < h.t → DeskRule l x → Rule3 (with_head l h')
  three_desk below rule = record {
    stages = stages_desk;
    idles = each (λ (e : ℕ) (y : Desk Spot). h.t ≤ e → y ≡ idle) (λ k. absurd (omega arith)) (λ e _. o.idles e);
    desks = each (λ _ (y : Desk Spot). DeskRule l y) rule (λ e _. o.desks e);
    apart = λ i e s n. apart_desk i e n s;
  }

-- ---- a desk that stays, while P moves on or records change

-- a look at a turn that is still current is still below written; a spot that is held is still current and below claimed
pub desk_kept : (l l' : Line) → l'.head.ne ≡ l.head.ne → l.head.p ≤ l'.head.p
    → ((t : ℕ) → t ≤ l.head.p → Current l' t → Current l t × ((here l t).written ≤ (here l' t).written))
    → (x : Desk Spot) → ((s : Spot) → Holds x s → Current l s.turn → Current l' s.turn × ((here l s.turn).claimed ≤ (here l' s.turn).claimed))
    → DeskRule l x → DeskRule l' x
desk_kept l l' e m saw idle held o = tt
desk_kept l l' e m saw (looked s) held o = (omega arith, omega arith, λ c. let k = saw s.turn o.0 c in omega (arith, o.2 k.0))
desk_kept l l' e m saw (holding x) held o = let k = held x.at refl o.0 in (k.0, omega arith)

-- ---- the record of one turn changes

-- the same record under desks that hold as many spots of its turn
pub stands_by : {z : Size} {p : ℕ} {ds ds' : List LentDesk} {t : ℕ} {c : Block} → held ds' t ≡ held ds t → Stands z p ds t c → Stands z p ds' t c
stands_by e s = record { round = s.round; fits = s.fits; full = s.full; some = s.some; claims = s.claims; zeroth = s.zeroth; holders = rw e s.holders }

abbrev pub with_desks : Head → List LentDesk → Head
with_desks h ds = record h { desks = ds }

-- what rules 2 and 3 ask of c, the new record of turn t
pub record Grows (l : Line) (t : ℕ) (c : Block) : Type 0 where
  pub turn : In l t
  pub claims : (here l t).claimed ≤ c.claimed
  pub writes : (here l t).written ≤ c.written
  pub reading : l.head.k ≡ t → c.claimed ≤ l.head.reading

module _ (l : Line) (g : ByTurns l) (t : ℕ) (c : Block) (r : Grows l t c) (es : List ℕ) where
  abbrev l' : Line
  l' = record { head = l.head; table = set l.table (block_of (size_in l) t) c; entries = es }

  each_here : (Q : ℕ → Block → Type 0) → Q t c → ((u : ℕ) → In l u → u ≢ t → Q u (here l u)) → (u : ℕ) → In l u → Q u (here l' u)
  each_here = each_turn (size_in l) l.table l.head.p t c (some_block l g) g.blocks r.turn

  abbrev Kept : ℕ → Block → Type 0
  Kept u b = ((here l u).claimed ≤ b.claimed) × ((here l u).written ≤ b.written)

  grown : (u : ℕ) → In l u → Kept u (here l' u)
  grown = each_here Kept (r.claims, r.writes) (λ u _ _. (omega arith, omega arith))

  pub three_record : Rule3 l'
  three_record = record {
    stages = g.three.stages;
    idles = g.three.idles;
    desks = λ d. desk_kept l l' refl (omega arith) (λ u _ e. (e, (at u e).1)) (desk_at l.head d) (λ s _ e. (e, (at s.turn e).0)) (g.three.desks d);
    apart = g.three.apart;
  }
    where
      at : (u : ℕ) → Current l u → Kept u (here l' u)
      at u e = grown u (current→window (size_in l) l.head.p u (some_block l g) e)

  -- and the desks are now ds, which hold as many spots of every other turn as before
  pub told_record : (ds : List LentDesk) → length ds ≡ 16 → length es ≡ length l.entries → Stands (size_in l) l.head.p ds t c
      → ((u : ℕ) → u ≢ t → held ds u ≡ held l.head.desks u)
      → Rule3 (with_head l' (with_desks l.head ds)) → ByTurns (with_head l' (with_desks l.head ds))
  told_record ds many same new others three =
      let k : In l l.head.k = record { low = g.one.below; high = omega (arith, g.one.near) } in
      let own : (u : ℕ) → In l u → l.head.k ≡ u → (here l' u).claimed ≤ l.head.reading =
      each_here (λ (u : ℕ) (b : Block). l.head.k ≡ u → b.claimed ≤ l.head.reading) r.reading (λ u _ _ e. rw (← e) g.two.from) in
      record {
        valid = g.valid;
        blocks = length-set l.table (block_of (size_in l) t) c ∙ g.blocks;
        room = same ∙ g.room;
        many = many;
        one = record { below = g.one.below; near = g.one.near; rounds = g.one.rounds };
        two = record { from = own l.head.k k refl; to = omega (arith, g.two.to, grown l.head.k k) };
        three = three;
        turns = each_here (Stands (size_in l) l.head.p ds) new (λ u v n. stands_by (others u n) (g.turns u v));
        blanks = λ u b i. record_later (size_in l) l.table t c u (omega (arith, r.turn.low)) i ∙ g.blanks u b i;
      }
