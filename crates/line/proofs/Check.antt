-- The check is what the rules say. The test of each rule tells the rule's sentence; rule 3 is taken desk by desk. The
-- check asks its questions in order, and a walk along them ends at the first that is broken, or all are obeyed and the
-- line is sound. So what the check answers is one law, `checked`, and three statements about it are read off; `names` is its
-- converse, that the first rule broken is the one named.
use Rattle.std.proofs.Common.{◌≡◌, ℕ, zero, suc, ◌+◌, ◌-◌, ◌<◌, ◌≤◌, not, ◌&&◌, T, eqb, leb, ◌≢◌, List, [], ◌∷◌, ◌++◌, get_or, drop, Ok, Err, sym, refl, ap, ◌∙◌, subst, ap₂, append-nil, arith, T_not, get_or-drop}
use Rattle.std.proofs.Math.Seq.{append_snoc}
use Rattle.book.specs.Total.{any, all}
use Rattle.book.specs.Steps.{Hold, Desk, idle, looked, holding, claimed_at, with_fetched}
use Rattle.book.proofs.Choice.{by_test, choose_true, choose_false, by_order, and_first}
use Rattle.book.proofs.Turns.{current_low}
use Rattle.line.specs.Line.{Line, LentDesk, Block, Spot, numbers_of, spot_of, desk_of, unused, size_of, here}
use Rattle.line.specs.Rules.{Holds, Current, DeskRule, Rule1, Rule2, Rule3, Rule4, Rule5, Rule6, Rule7, Sound}
use Rattle.line.specs.Rules.{Rule, rule1, rule2, rule3, rule4, rule5, rule6, rule7, rule_number, RuleAt, ask, of_blocks, in_order, Obeys}
use Rattle.line.specs.Tests.{is_recent, desk_obeys, is_idle, holds_at, clashes, no_clash, obeys3}
use Rattle.line.specs.Check.{Checked, sound, unfit, broken, Misfit, Broken, fit, holds, first_broken, check}
use Rattle.line.specs.Demands.{CheckUnfit, CheckSound, CheckBroken, CheckNames, FirstBroken}
use Rattle.line.proofs.Current.{current→window, window→current}
use Rattle.line.proofs.Cells.{valid}
use Rattle.line.proofs.Tests.{Tells, itself, told, le, lt, eq, isnt, ◌and◌, ◌or◌, ◌implies◌, choice, all_told, none_told}

-- ---- rule 3, desk by desk

idle_is : (x : Desk Spot) → T (is_idle x) → x ≡ idle
idle_is idle t = refl
idle_is (looked s) t = absurd t
idle_is (holding h) t = absurd t

idle_told : (x : Desk Spot) → Tells (is_idle x) (x ≡ idle)
idle_told x = record { to = idle_is x; from = λ e. rw e tt }

spot_told : (x s : Spot) → Tells (eqb x.turn s.turn && eqb x.place s.place) (x ≡ s)
spot_told x s =
    told (eq and eq) (λ h j. record { turn = h.0 j; place = h.1 j }) (λ e. (ap (λ (y : Spot). y.turn) e, ap (λ (y : Spot). y.place) e))

holds_told : (s : Spot) (x : Desk Spot) → Tells (holds_at s x) (Holds x s)
holds_told s idle = itself
holds_told s (looked x) = itself
holds_told s (holding h) = spot_told h.at s

abbrev desk_in : List LentDesk → ℕ → Desk Spot
desk_in xs d = desk_of (get_or xs d (numbers_of idle))

-- past the end of the list every desk is idle
idle_past : desk_of (numbers_of idle) ≡ idle
unfolding desk_of
idle_past = refl

idles_told : (n : ℕ) (xs : List LentDesk) → Tells (all (λ x. is_idle (desk_of x)) (drop n xs)) ((d : ℕ) → n ≤ d → desk_in xs d ≡ idle)
idles_told n xs =
    told (all_told (numbers_of idle) idle_past (λ x. idle_told (desk_of x)) (drop n xs))
    (λ h d u. let e : n + (d - n) ≡ d = omega arith in rw (get_or-drop n xs (d - n) (numbers_of idle), e) at (h (d - n)))
    (λ h d. rw (get_or-drop n xs d (numbers_of idle)) (h (n + d) (omega arith)))

abbrev NoneHolds : (Spot → Type 0) → List LentDesk → Type 0
NoneHolds P xs = (d : ℕ) (s : Spot) → P s → Holds (desk_in xs d) s → ⊥

spot_free : (x : Spot) (xs : List LentDesk) → Tells (not (any (λ y. holds_at x (desk_of y)) xs)) (NoneHolds (λ s. x ≡ s) xs)
unfolding desk_of
spot_free x xs =
    told (none_told (numbers_of idle) (λ h. h) (λ y. holds_told x (desk_of y)) xs)
    (λ h d s e k. h d (rw e k))
    (λ h d k. h d x refl k)

clash_told : (x : Desk Spot) (xs : List LentDesk) → Tells (not (clashes x xs)) (NoneHolds (Holds x) xs)
clash_told idle xs = record { to = λ _ d s p. absurd p; from = λ _. tt }
clash_told (looked x) xs = record { to = λ _ d s p. absurd p; from = λ _. tt }
clash_told (holding h) xs = spot_free h.at xs

abbrev Apart : List LentDesk → Type 0
Apart xs = (d e : ℕ) (s : Spot) → d ≢ e → Holds (desk_in xs d) s → Holds (desk_in xs e) s → ⊥

apart_cons : (x : LentDesk) (xs : List LentDesk) → NoneHolds (Holds (desk_of x)) xs → Apart xs → Apart (x ∷ xs)
apart_cons x xs f g zero zero s n h k = absurd (n refl)
apart_cons x xs f g zero (suc e) s n h k = f e s h k
apart_cons x xs f g (suc d) zero s n h k = f d s k h
apart_cons x xs f g (suc d) (suc e) s n h k = g d e s (λ q. n (ap suc q)) h k

apart_told : (xs : List LentDesk) → Tells (no_clash xs) (Apart xs)
unfolding no_clash desk_of
apart_told [] = record { to = λ _ d e s n h k. h; from = λ _. tt }
apart_told (x ∷ xs) =
    told (clash_told (desk_of x) xs and apart_told xs)
    (λ h. apart_cons x xs h.0 h.1)
    (λ h. (λ e s. h 0 (suc e) s (omega arith), λ d e s n. h (suc d) (suc e) s (omega arith)))

-- ---- each rule

pub blocks : (l : Line) → T (fit (size_of l.head) l.table l.entries) → 0 < l.head.nb
unfolding fit
blocks l f = omega (arith, valid (size_of l.head) (search and_first))

module _ (l : Line) (pos : 0 < l.head.nb) where
  -- a turn is its block's current one exactly if it is among the last NB
  current_told : (t : ℕ) → Tells (is_recent l.head.nb l.head.p t) (Current l t)
  current_told t =
      let z = size_of l.head in
      told (le {m = t} {n = l.head.p} and lt {m = l.head.p - t} {n = l.head.nb})
      (λ h. window→current z l.head.p t pos (record { low = h.0; high = omega (arith, h.0, h.1) }))
      (λ e. let w = current→window z l.head.p t pos e in (w.low, omega (arith, w.high, w.low)))

  rule1_told : Tells (holds l 64 rule1) (Rule1 l)
  unfolding holds
  rule1_told =
      told (le and lt {m = l.head.p - l.head.k} {n = l.head.nb} and lt) (λ h. record { below = h.0.0; near = omega (arith, h.0.1); rounds = h.1 })
      (λ r. ((r.below, omega (arith, r.near)), r.rounds))

  rule2_told : Tells (holds l 64 rule2) (Rule2 l)
  unfolding holds
  rule2_told = told (le and le) (λ h. record { from = h.0; to = h.1 }) (λ r. (r.from, r.to))

  -- a desk y that carries turn t, or is idle
  abbrev DeskTold : ℕ → Desk Spot → Type 0
  DeskTold t y = Tells (desk_obeys l.head.nb l.head.ne l.head.p (here l t) y) (DeskRule l y)

  looked_told : (s : Spot) → DeskTold s.turn (looked s)
  looked_told s = told (le and lt and (current_told s.turn implies lt)) (λ h. (h.0.0, h.0.1, h.1)) (λ r. ((r.0, r.1), r.2))

  holding_told : (h : Hold Spot) → DeskTold h.at.turn (holding h)
  holding_told h = current_told h.at.turn and lt

  desk_told : (x : LentDesk) → DeskTold x.turn (desk_of x)
  unfolding desk_of
  desk_told x =
      let h = claimed_at (spot_of x) in
      by_test (DeskTold x.turn) (eqb x.stage 1) (λ _. looked_told (spot_of x)) (λ _.
      by_test (DeskTold x.turn) (eqb x.stage 2) (λ _. holding_told h) (λ _.
      by_test (DeskTold x.turn) (eqb x.stage 3) (λ _. holding_told (with_fetched h)) (λ _. itself)))

  stage_told : (x : LentDesk) → Tells (leb x.stage 3 && desk_obeys l.head.nb l.head.ne l.head.p (here l x.turn) (desk_of x)) ((x.stage ≤ 3) × DeskRule l (desk_of x))
  stage_told x = le and desk_told x

  rule3_told : Tells (holds l 64 rule3) (Rule3 l)
  unfolding holds obeys3
  rule3_told =
      let xs = l.head.desks in
      told (all_told (numbers_of idle) (omega arith, rw idle_past tt) stage_told xs and idles_told l.head.t xs and apart_told xs)
      (λ h. record { stages = λ d. (h.0.0 d).0; idles = h.0.1; desks = λ d. (h.0.0 d).1; apart = h.1 })
      (λ r. ((λ d. (r.stages d, r.desks d), r.idles), r.apart))

  module _ (i : ℕ) where
    abbrev c : Block
    c = get_or l.table i unused

    zeros_told : Tells (eqb c.round 0 && eqb c.written 0 && eqb c.claimed 0 && eqb c.finished 0) (c ≡ unused)
    zeros_told =
        told (eq and eq and eq and eq)
        (λ h j. record { round = h.0.0.0 j; written = h.0.0.1 j; claimed = h.0.1 j; finished = h.1 j })
        (λ e. (((ap (λ (c : Block). c.round) e, ap (λ (c : Block). c.written) e), ap (λ (c : Block). c.claimed) e), ap (λ (c : Block). c.finished) e))

    rule4_told : Tells (holds l i rule4) (Rule4 l i)
    unfolding holds
    rule4_told =
        told (choice le eq zeros_told)
        (λ h. record { round = h.0; zeros = λ u. h.1 (λ v. omega arith) })
        (λ r. (r.round, λ n. r.zeros (omega arith)))

    rule5_told : Tells (holds l i rule5) (Rule5 l i)
    unfolding holds
    rule5_told =
        told (le implies (le and choice lt eq (eq or le)))
        (λ h. record { fits = λ u. (h u).0; full = λ u. (h u).1.0; some = λ u e. (h u).1.1 (λ b. omega arith) })
        (λ r u. (r.fits u, (r.full u, λ n. r.some u (omega (arith, current_low (size_of l.head) l.head.p i)))))

    rule6_told : Tells (holds l i rule6) (Rule6 l i)
    unfolding holds
    rule6_told =
        told (le implies (le and (eq implies eq)))
        (λ h. record { fits = λ u. (h u).0; zeroth = λ u. (h u).1 })
        (λ r u. (r.fits u, r.zeroth u))

    rule7_told : Tells (holds l i rule7) (Rule7 l i)
    unfolding holds
    rule7_told = told (le implies eq) (λ h. record { holders = h }) (λ r. r.holders)

  rule_told : (i : ℕ) (r : Rule) → Tells (holds l i r) (Obeys l (ask i r))
  unfolding holds
  rule_told i rule1 = rule1_told
  rule_told i rule2 = rule2_told
  rule_told i rule3 = rule3_told
  rule_told i rule4 = rule4_told i
  rule_told i rule5 = rule5_told i
  rule_told i rule6 = rule6_told i
  rule_told i rule7 = rule7_told i

-- ---- the questions in their order

module _ (l : Line) where
  abbrev Every : List RuleAt → Type 0
  Every [] = Unit {0}
  Every (q ∷ qs) = Obeys l q × Every qs

  every_in : (x y : List RuleAt) (q : RuleAt) → Every (x ++ (q ∷ y)) → Obeys l q
  every_in [] y q h = h.0
  every_in (p ∷ x) y q h = every_in x y q h.1

  every_more : (x : List RuleAt) (q : RuleAt) → Every x → Obeys l q → Every (x ++ (q ∷ []))
  every_more [] q h o = (o, tt)
  every_more (p ∷ x) q h o = (h.0, every_more x q h.1 o)

  abbrev BlockRules : ℕ → Type 0
  BlockRules i = Rule4 l i × Rule5 l i × Rule6 l i × Rule7 l i

  blocks_obey : (i n : ℕ) → Every (of_blocks i n) → (j : ℕ) → i ≤ j → j < i + n → BlockRules j
  unfolding of_blocks
  blocks_obey i zero h j u v = absurd (omega arith)
  blocks_obey i (suc n) h j u v =
      by_order i j
      (λ m. blocks_obey (suc i) n h.1.1.1.1 j m (omega arith))
      (λ e. subst BlockRules e (h.0, h.1.0, h.1.1.0, h.1.1.1.0))
      (λ m. absurd (omega arith))

  obey_blocks : (i n : ℕ) → ((j : ℕ) → i ≤ j → j < i + n → BlockRules j) → Every (of_blocks i n)
  unfolding of_blocks
  obey_blocks i zero h = tt
  obey_blocks i (suc n) h =
      let r = h i (omega arith) (omega arith) in
      (r.0, (r.1, (r.2, (r.3, obey_blocks (suc i) n (λ j u v. h j (omega arith) (omega arith))))))

  abbrev nb : ℕ
  nb = l.head.nb

  every_sound : Every (in_order nb) → Sound l
  unfolding in_order
  every_sound h =
      let r : (i : ℕ) → i < nb → BlockRules i = λ i u. blocks_obey 0 nb h.1.1.1 i (omega arith) (omega arith) in
      record {
        one = h.0;
        two = h.1.0;
        three = h.1.1.0;
        four = λ i u. (r i u).0;
        five = λ i u. (r i u).1;
        six = λ i u. (r i u).2;
        seven = λ i u. (r i u).3;
      }

  sound_every : Sound l → Every (in_order nb)
  unfolding in_order
  sound_every s =
      let r : (i : ℕ) → i < nb → BlockRules i = λ i u. (s.four i u, s.five i u, s.six i u, s.seven i u) in
      (s.one, (s.two, (s.three, obey_blocks 0 nb (λ i _ u. r i (omega arith)))))

  -- ---- what the check answers

  abbrev pub Fit : Type 0
  Fit = T (fit (size_of l.head) l.table l.entries)

  abbrev pub Says : Checked → Type 0
  Says (Ok u) = Fit × Sound l
  Says (Err Misfit) = Fit → ⊥
  Says (Err (Broken place rule)) = Fit × FirstBroken l place rule

  -- the questions x are obeyed, and y are still to be asked
  walk : Fit → (x y : List RuleAt) → in_order nb ≡ x ++ y → Every x → Says (first_broken l y)
  unfolding first_broken
  walk t x [] e h = (t, every_sound (rw (e, append-nil x) h))
  walk t x (q ∷ y) e h =
      let r = rule_told l (blocks l t) q.place q.rule in
      by_test Says (holds l q.place q.rule)
      (λ s. walk t (x ++ (q ∷ [])) y (e ∙ sym (append_snoc x q y)) (every_more x q h (r.to s)))
      (λ s. (
        t,
        record {
          before = x;
          named = q;
          behind = y;
          order = e;
          there = refl;
          number = refl;
          is_broken = (isnt r).to s;
          none_before = λ u v p d. every_in u v p (subst Every d h);
        },
      ))

  pub checked : Says (check l)
  unfolding check
  checked =
      let b = fit (size_of l.head) l.table l.entries in
      by_test Says b (λ t. walk t [] (in_order nb) refl tt) (λ t. T_not b t)

  pub broken_unsound : (place rule : ℕ) → FirstBroken l place rule → Sound l → ⊥
  broken_unsound place rule f s = f.is_broken (every_in f.before f.behind f.named (subst Every f.order (sound_every s)))

  -- the questions x are obeyed, and q behind them is not
  names : Fit → (x y : List RuleAt) (q : RuleAt) → ((u v : List RuleAt) (a : RuleAt) → x ≡ u ++ (a ∷ v) → Obeys l a) → (Obeys l q → ⊥)
      → first_broken l (x ++ (q ∷ y)) ≡ broken q.place (rule_number q.rule)
  unfolding first_broken
  names t [] y q h n = choose_false (holds l q.place q.rule) _ _ ((isnt (rule_told l (blocks l t) q.place q.rule)).from n)
  names t (p ∷ x) y q h n =
      choose_true (holds l p.place p.rule) _ _ ((rule_told l (blocks l t) p.place p.rule).from (h [] x p refl))
      ∙ names t x y q (λ u v a e. h (p ∷ u) v a (ap (λ (qs : List RuleAt). p ∷ qs) e)) n

  says_sound : (c : Checked) → Says c → Fit → Sound l → c ≡ sound
  says_sound (Ok tt) h t s = refl
  says_sound (Err Misfit) h t s = absurd (h t)
  says_sound (Err (Broken place rule)) h t s = absurd (broken_unsound place rule h.1 s)

  says_unfit : (c : Checked) → Says c → (Fit → ⊥) → c ≡ unfit
  says_unfit (Ok tt) h n = absurd (n h.0)
  says_unfit (Err Misfit) h n = refl
  says_unfit (Err (Broken place rule)) h n = absurd (n h.0)

pub check_unfit : CheckUnfit
unfolding CheckUnfit
check_unfit l = (λ e. subst (Says l) e (checked l), says_unfit l (check l) (checked l))

pub check_sound : CheckSound
unfolding CheckSound
check_sound l = (λ e. subst (Says l) e (checked l), λ h. says_sound l (check l) (checked l) h.0 h.1)

pub check_broken : CheckBroken
unfolding CheckBroken
check_broken l place rule e = subst (Says l) e (checked l)

pub check_names : CheckNames
unfolding CheckNames check
check_names l place rule t f =
    choose_true (fit (size_of l.head) l.table l.entries) _ _ t ∙ ap (first_broken l) f.order
    ∙ names l t f.before f.behind f.named f.none_before f.is_broken ∙ ap₂ broken f.there f.number
