-- What is refused before anything else is read. A step, an order and the survey go by what the check answers, opening by
-- whether the numbers and lengths fit. For the other way round, that a step on a sound line answers neither UNFIT nor
-- DAMAGED, each step is followed through its tests once: every refusal in them has a later number. At the end, what is
-- cited of a step and an order on a sound line.
use Rattle.std.proofs.Common.{◌≡◌, ℕ, zero, suc, ◌+◌, ◌-◌, Bool, true, not, ◌&&◌, T, [], get_or, Ok, Err, sym, refl, ap, subst}
use Rattle.std.proofs.Math.Dec.{not_T}
use Rattle.words.specs.declared.Answer.{Answer}
use Rattle.words.specs.declared.Answer.TheVariants.{Refused}
use Rattle.words.specs.declared.Refusal.TheVariants.{Unfit, Damaged, Stage}
use Rattle.words.specs.Words.{said}
use Rattle.book.specs.Choice.{◌<ᵇ◌, ◌≤ᵇ◌, ◌≡ᵇ◌}
use Rattle.book.specs.Total.{all}
use Rattle.book.specs.Sizes.{Size, within, is_label, is_order, round_of, is_used, is_owned, current_turn}
use Rattle.book.specs.declared.DeskStep.{DeskStep}
use Rattle.book.specs.declared.DeskStep.TheVariants.{Look as look, Claim as claim, Fetch as fetch, Finish as finish}
use Rattle.book.specs.declared.Deed.{Deed}
use Rattle.book.specs.declared.Deed.TheVariants.{Put as put, Get as get, Order as order, Desk as desk, Unlisted as unlisted}
use Rattle.book.specs.Steps.{Step, decode, Desk, Hold, hold_of}
use Rattle.book.specs.Verdicts.{Verdict, takes, refuses, judge, grid, stage, column, at_stage, no_block, admitted, lookable, startable, placeable}
use Rattle.book.proofs.Choice.{by_test, T→true, not→false}
use Rattle.line.specs.Line.{Line, Outcome, Spot, says, refuse, nowhere, size_of, desk_at, record_of, may_put, with_label, put_step, put_many, order_step}
use Rattle.line.specs.Line.{read_at, get_step, desk_does, desk_step, does}
use Rattle.line.specs.Rules.{Sound}
use Rattle.line.specs.Check.{Checked, Misfit, Broken, fit, check}
use Rattle.line.specs.Calls.{opens, passes, step, orders}
use Rattle.line.specs.Survey.{surveys, survey, views, surveyed, survey·unfit, survey·damaged, found}
use Rattle.line.specs.Demands.{CheckSound, Guarded, StepGuarded, OrderGuarded, SurveyGuarded, OpeningGuarded}
use Rattle.line.proofs.DeskMoves.{winnable, look_step, claim_step, fetch_step, finish_step, does_look, does_claim, does_fetch, does_finish}
use Rattle.line.proofs.Tests.{all_at}
use Rattle.line.proofs.Check.{Fit, Says, checked, broken_unsound, check_sound}

-- ---- answers other than UNFIT and DAMAGED, by their numbers 1 and 2

abbrev pub is_later : Answer → Bool
is_later a = not (within 1 2 (said a).number)

abbrev pub Later : Outcome → Type 0
Later o = T (is_later o.answer)

pub later_unfit : (o : Outcome) (n : ℕ) → Later o → o.answer ≡ Refused Unfit n → ⊥
later_unfit o n h e = subst (λ (a : Answer). T (is_later a)) e h

pub later_damaged : (o : Outcome) (n : ℕ) → Later o → o.answer ≡ Refused Damaged n → ⊥
later_damaged o n h e = subst (λ (a : Answer). T (is_later a)) e h

unfit_damaged : Refused Unfit 0 ≡ Refused Damaged 0 → ⊥
unfit_damaged e = cc

-- ---- the verdicts, their refusals given with the value n

module _ (n : ℕ) where
  abbrev is_later_by : Verdict → Bool
  is_later_by (Ok u) = true
  is_later_by (Err w) = is_later (Refused w n)

  abbrev LaterBy : Verdict → Type 0
  LaterBy v = T (is_later_by v)

  judge_later : (l : Line) (v : Verdict) (o : Outcome) → LaterBy v → Later o → Later (judge v o (λ w. says l (Refused w n)))
  judge_later l (Ok u) o t h = h
  judge_later l (Err w) o t h = t

  grid_later : (i j : ℕ) → LaterBy (at_stage i j)
  unfolding all
  grid_later i j = all_at is_later_by (refuses Stage) tt (get_or grid i []) j (all_at (all is_later_by) [] tt grid i tt)

  module _ (z : Size) where
    admitted_later : {A : Type 0} (d : ℕ) (s : DeskStep) (x : Desk A) → LaterBy (admitted z d s x)
    unfolding admitted
    admitted_later d s x =
        by_test LaterBy (z.t ≤ᵇ d) (λ _. tt) (λ _.
        by_test LaterBy (no_block z s) (λ _. tt) (λ _. grid_later (stage x) (column s)))

    lookable_later : (p k i : ℕ) (waits : Bool) → LaterBy (lookable z p k i waits)
    unfolding lookable
    lookable_later p k i waits =
        by_test LaterBy (is_owned z p k i) (λ _. tt) (λ _.
        by_test LaterBy (is_used z p i && waits) (λ _. tt) (λ _. tt))

    startable_later : (k : ℕ) (busy : Bool) (next : ℕ) → LaterBy (startable z k busy next)
    unfolding startable
    startable_later k busy next =
        by_test LaterBy (65536 ≤ᵇ round_of z next) (λ _. tt) (λ _.
        by_test LaterBy (next <ᵇ z.nb) (λ _. tt) (λ _.
        by_test LaterBy (k ≤ᵇ next - z.nb) (λ _. tt) (λ _.
        by_test LaterBy busy (λ _. tt) (λ _. tt))))

    placeable_later : (p written k : ℕ) (busy : Bool) (a : ℕ) → LaterBy (placeable z p written k busy a)
    unfolding placeable
    placeable_later p written k busy a =
        by_test LaterBy (not (is_label a)) (λ _. tt) (λ _.
        by_test LaterBy (written <ᵇ z.ne) (λ _. tt) (λ _. startable_later k busy (p + 1)))

    may_later : (l : Line) (a : ℕ) → LaterBy (may_put z l a)
    unfolding may_put
    may_later l a = placeable_later l.head.p _ l.head.k _ a

-- ---- every step

module _ (z : Size) where
  many_later : (n : ℕ) (l : Line) (a count : ℕ) → Later (put_many z n l a count)
  unfolding put_many
  many_later zero l a count = tt
  many_later (suc n) l a count =
      judge_later count l (may_put z l a) _ (may_later count z l a) (many_later n (with_label z l a) (suc a) (suc count))

  module _ (l : Line) where
    pub order_later : (a e : ℕ) → Later (order_step z l a e)
    unfolding order_step
    order_later a e = by_test Later (is_order a e) (λ _. many_later (suc e - a) l a 0) (λ _. tt)

    read_later : (s : Spot) → Later (read_at z l s)
    unfolding read_at
    read_later s = by_test Later (s.place <ᵇ (record_of z l.table s.turn).written) (λ _. tt) (λ _. tt)

    look_later : (d i : ℕ) → Later (look_step z l d i)
    unfolding look_step
    look_later d i =
        let c = record_of z l.table (current_turn z l.head.p i) in
        let waits = not (c.claimed ≡ᵇ c.written) in
        judge_later 0 l (lookable z l.head.p l.head.k i waits) _ (lookable_later 0 z l.head.p l.head.k i waits) tt

    does_desk_later : (d : ℕ) (h : Hold Spot) (s : DeskStep) → Later (desk_does z l d h s)
    unfolding claim_step fetch_step finish_step
    does_desk_later d h (look i) = rw (does_look z l d h i) (look_later d i)
    does_desk_later d h claim = rw (does_claim z l d h) (by_test Later (winnable z l h.at) (λ _. tt) (λ _. tt))
    does_desk_later d h fetch = rw (does_fetch z l d h) tt
    does_desk_later d h finish = rw (does_finish z l d h) tt

    desk_later : (d : ℕ) (s : DeskStep) (x : Desk Spot) → Later (desk_step z l d s x)
    unfolding desk_step
    desk_later d s x = judge_later 0 l (admitted z d s x) _ (admitted_later 0 z d s x) (does_desk_later d (hold_of nowhere x) s)

    pub does_later : (e : Deed) → Later (does z l e)
    unfolding does put_step get_step
    does_later (put a) = judge_later 0 l (may_put z l a) _ (may_later 0 z l a) tt
    does_later get = read_later _
    does_later (order a e) = order_later a e
    does_later (desk d s) = desk_later d s (desk_at l.head d)
    does_later unlisted = tt

-- ---- the guards, by what the check answers

says_guarded : (l : Line) (o : Outcome) → Later o → (c : Checked) → Says l c → Guarded l (judge (passes c) o (refuse l))
says_guarded l o h (Ok tt) s = record {
  unfit = (λ e. absurd (later_unfit o 0 h e), λ n. absurd (n s.0));
  damaged = (λ e. absurd (later_damaged o 0 h e), λ n. absurd (n.1 s.1));
  left = λ n. absurd (n s);
}
says_guarded l o h (Err Misfit) s = record {
  unfit = (λ _. s, λ _. refl);
  damaged = (λ e. absurd (unfit_damaged e), λ n. absurd (s n.0));
  left = λ _. refl;
}
says_guarded l o h (Err (Broken place rule)) s = record {
  unfit = (λ e. absurd (unfit_damaged (sym e)), λ n. absurd (n s.0));
  damaged = (λ _. (s.0, broken_unsound l place rule s.1), λ _. refl);
  left = λ _. refl;
}

pub step_guarded : StepGuarded
unfolding StepGuarded step
step_guarded l s = says_guarded l (does (size_of l.head) l (decode s)) (does_later (size_of l.head) l (decode s)) (check l) (checked l)

pub order_guarded : OrderGuarded
unfolding OrderGuarded orders
order_guarded l a e = says_guarded l (order_step (size_of l.head) l a e) (order_later (size_of l.head) l a e) (check l) (checked l)

says_surveyed : (l : Line) (c : Checked) → Says l c
    → ((Fit l → ⊥) → surveys l c ≡ survey·unfit)
    × (Fit l → (Sound l → ⊥) → surveys l c ≡ survey·damaged)
    × (Fit l → Sound l → surveys l c ≡ surveyed (found (surveys l c)))
unfolding surveys views
says_surveyed l (Ok tt) s = (λ n. absurd (n s.0), λ _ n. absurd (n s.1), λ _ _. refl)
says_surveyed l (Err Misfit) s = (λ _. refl, λ t. absurd (s t), λ t. absurd (s t))
says_surveyed l (Err (Broken place rule)) s = (λ n. absurd (n s.0), λ _ _. refl, λ _ h. absurd (broken_unsound l place rule s.1 h))

pub survey_guarded : SurveyGuarded
unfolding SurveyGuarded survey
survey_guarded l = says_surveyed l (check l) (checked l)

pub opening_guarded : OpeningGuarded
unfolding OpeningGuarded opens
opening_guarded l z =
    let b = fit z l.table l.entries in
    (λ t. rw (T→true b t) (refl, refl), λ n. rw (not→false b (not_T b n)) (refl, refl))

-- ---- a step and an order on a sound line

pub passes_takes : (l : Line) → Fit l → Sound l → passes (check l) ≡ takes
unfolding CheckSound
passes_takes l t s = ap passes ((check_sound l).1 (t, s))

pub step_does : (l : Line) (s : Step) → Fit l → Sound l → step l s ≡ does (size_of l.head) l (decode s)
unfolding step
step_does l s t h = rw (passes_takes l t h) refl

pub orders_does : (l : Line) (a e : ℕ) → Fit l → Sound l → orders l a e ≡ order_step (size_of l.head) l a e
unfolding orders
orders_does l a e t h = rw (passes_takes l t h) refl
