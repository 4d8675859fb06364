-- Each demand holds of whatever outcomes the promises allow. A promise is one equation with a definition of the line,
-- so a theorem about the definition is one about the outcome; and a run of calls from opening is a run of the line from
-- `opened`.
use Rattle.std.proofs.Common.{◌≡◌, ◌↔◌, ℕ, T, List, [], ◌∷◌, map, length, replicate, Ok, Err, refl, sym, ap, subst, ◌∙◌, T_not}
use Rattle.words.specs.declared.Answer.{Answer}
use Rattle.words.specs.declared.Answer.TheVariants.{Seen}
use Rattle.book.specs.Sizes.{Size, fits}
use Rattle.book.specs.Steps.{Step, decode}
use Rattle.book.specs.Book as B
use Rattle.book.specs.Demands as BD
use Rattle.book.proofs.Choice.{by_test}
use Rattle.book.proofs.Counting.{counting, never_twice}
use Rattle.book.proofs.Handed as H
use Rattle.book.proofs.Bound.{bounded}
use Rattle.line.specs.declared.Block.{Block}
use Rattle.line.specs.declared.Head.{Head}
use Rattle.line.specs.Line.{Line, Outcome, says, opened}
use Rattle.line.specs.Check.{Checked, fit, check}
use Rattle.line.specs.Calls.{Opening, Opened, open·line, opens, step, orders, answers, after}
use Rattle.line.specs.Survey.{Surveyed, found, survey}
use Rattle.line.specs.Demands as D
use Rattle.line.proofs.Check as K
use Rattle.line.proofs.Guards as G
use Rattle.line.proofs.Orders.{ordered_when, step_is_order}
use Rattle.line.proofs.Refusals as F
use Rattle.line.proofs.Runs as R
use Rattle.line.proofs.Survey as S
use Rattle.portal.specs.Promises.{lent, Opens, Steps, Orders, Checks, Surveys}
use Rattle.portal.specs.Demands.{OpeningSays, OpeningTold, StepGuarded, OrderGuarded, CheckTold, CheckUnread, SurveyUnread, Call, stepped, ordered, as_step, Allows, Runs, Run}
use Rattle.portal.specs.Demands.{RefusalLeaves, StepRefusedLeaves, RefusalSays, StepRefusedWhen, OrderRefusedWhen}
use Rattle.portal.specs.Demands.{Demand2, Counted, Handed, RowsKept, AlwaysSound, SurveySays, SurveyTold, Demand3}
use Rattle.table.specs.Laid.{loaded}
use Rattle.byvalue.specs.Lent.{line_of}
use Rattle.portal.proofs.FirstBroken.{first_named}
use Rattle.portal.proofs.Lengths.{fit_long}
use Rattle.portal.proofs.Outcomes as O
use Rattle.portal.proofs.Unique.{opens_unique, steps_unique, orders_unique, checks_unique, surveys_unique}

-- ---- what a promise allows is what the line does: what is said of it tells the answer

opening_is : (lent l : Line) (z : Size) (r : Opening) → Opens lent z r l → record { line = l; answer = r } ≡ opens lent z
opening_is lent l z r e =
    let o = opens_unique lent z r _ l _ e refl in
    λ j. record { line = o.1 j; answer = o.0 j }

step_is : (l m : Line) (s : Step) (r : Answer) → Steps l s r m → says m r ≡ step l s
step_is l m s r e =
    let o = steps_unique l s r _ m _ e refl in
    λ j. record { line = o.1 j; answer = o.0 j }

order_is : (l m : Line) (first last : ℕ) (r : Answer) → Orders l first last r m → says m r ≡ orders l first last
order_is l m first last r e =
    let o = orders_unique l first last r _ m _ e refl in
    λ j. record { line = o.1 j; answer = o.0 j }

check_is : (l : Line) (r : Checked) → Checks l r → r ≡ check l
check_is l r e = checks_unique l r _ e refl

survey_is : (l : Line) (v : Surveyed) → Surveys l v → v ≡ survey l
survey_is l v e = surveys_unique l v _ e refl

-- ---- demand 1

pub step_guarded : StepGuarded
unfolding StepGuarded D.StepGuarded
step_guarded l m s r e = subst (D.Guarded l) (sym (step_is l m s r e)) (G.step_guarded l s)

pub order_guarded : OrderGuarded
unfolding OrderGuarded D.OrderGuarded
order_guarded l m first last r e = subst (D.Guarded l) (sym (order_is l m first last r e)) (G.order_guarded l first last)

pub step_refused_leaves : StepRefusedLeaves
unfolding StepRefusedLeaves D.RefusedLeaves D.HeadAlone
step_refused_leaves l m s r e none =
    subst (λ (o : Outcome). RefusalLeaves l o.line o.answer) (sym (step_is l m s r e))
    (record { left = λ w n. F.refused_leaves l s w n none; head_alone = λ w n. F.head_alone l s w n none })

pub step_refused_when : StepRefusedWhen
unfolding StepRefusedWhen D.RefusedWhen D.LostLeaves D.EmptyLeaves
step_refused_when l m s r e fits sound none =
    subst (λ (o : Outcome). RefusalSays l o.line s o.answer) (sym (step_is l m s r e)) (record {
      when = λ w n. F.refused_when l s w n fits sound none;
      lost = λ n. F.lost_leaves l s n fits sound none;
      empty = λ n. F.empty_leaves l s n fits sound;
    })

pub order_refused_when : OrderRefusedWhen
unfolding OrderRefusedWhen D.OrderedWhen
order_refused_when l m first last r e fits sound = subst (D.Ordered l first last) (sym (order_is l m first last r e)) (ordered_when l first last fits sound)

pub check_told : CheckTold
unfolding CheckTold D.CheckUnfit D.CheckSound D.CheckBroken
check_told l r e = rw (check_is l r e) (record { unfit = K.check_unfit l; sound = K.check_sound l; broken = K.check_broken l; first = first_named l })

-- an answer that is known by the number of entries
unread : {A : Type 0} (P : Line → A → Type 0) → ((l : Line) (r s : A) → P l r → P l s → r ≡ s) → (c : ℕ → A) (h : Head) (t : List Block)
    → ((es : List ℕ) (r : A) → r ≡ c (length es) → P (lent h t es) r) → (es fs : List ℕ) (r s : A) → length es ≡ length fs → P (lent h t es) r → P (lent h t fs) s → r ≡ s
unread P one c h t known es fs r s e p q = one (lent h t es) r (c (length es)) p (known es _ refl) ∙ sym (one (lent h t fs) s (c (length es)) q (known fs _ (ap c e)))

pub check_unread : CheckUnread
unfolding CheckUnread
check_unread h t = unread Checks checks_unique (λ n. check (line_of h (loaded t) (length t) (replicate n 0))) h t (O.checked h t)

pub survey_unread : SurveyUnread
unfolding SurveyUnread
survey_unread h t = unread Surveys surveys_unique (λ n. survey (line_of h (loaded t) (length t) (replicate n 0))) h t (O.surveyed h t)

abbrev IsOpen : Opening → Type 0
IsOpen (Ok u) = Unit {0}
IsOpen (Err w) = ⊥

pub opening_told : OpeningTold
unfolding OpeningTold opens
opening_told lent l z r e =
    let b = fit z lent.table lent.entries in
    subst (λ (o : Opened). OpeningSays lent z o.answer o.line) (sym (opening_is lent l z r e))
    (by_test (λ (o : Opened). OpeningSays lent z o.answer o.line) b
    (λ t. record {
      answer = (λ _. t, λ _. refl);
      unfit = (λ q. absurd (subst IsOpen q tt), λ n. absurd (n t));
      fresh = λ _. refl;
      left = λ q. absurd (subst IsOpen q tt);
    })
    (λ t. record {
      answer = (λ q. absurd (subst IsOpen (sym q) tt), λ u. absurd (T_not b t u));
      unfit = (λ _. T_not b t, λ _. refl);
      fresh = λ q. absurd (subst IsOpen (sym q) tt);
      left = λ _. refl;
    }))

-- ---- a run of calls

allowed : (l m : Line) (c : Call) (r : Answer) → Allows l c r m → says m r ≡ step l (as_step c)
unfolding D.StepIsOrder decode
allowed l m (stepped s) r e = step_is l m s r e
allowed l m (ordered first last) r e = order_is l m first last r e ∙ sym (step_is_order l (as_step (ordered first last)) first last refl)

runs_line : (l m : Line) (cs : List Call) (rs : List Answer) → Runs l cs rs m → (rs ≡ answers l (map as_step cs)) × (m ≡ after l (map as_step cs))
unfolding answers after
runs_line l m [] [] e = (refl, sym e)
runs_line l m [] (r ∷ rs) e = absurd e
runs_line l m (c ∷ cs) [] e = absurd e
runs_line l m (c ∷ cs) (r ∷ rs) e =
    let (k, a, more) = e in
    let rest = runs_line k m cs rs more in
    let ss = map as_step cs in
    subst (λ (o : Outcome). (r ∷ rs ≡ o.answer ∷ answers o.line ss) × (m ≡ after o.line ss)) (allowed l k c r a)
    (ap (λ (xs : List Answer). r ∷ xs) rest.0, rest.1)

module _ (z : Size) (cs : List Call) (rs : List Answer) (m : Line) (run : Run z cs rs m) where
  began : OpeningSays run.lent z open·line run.line
  unfolding OpeningTold
  began = opening_told run.lent run.line z open·line run.opens

  size_fits : T (fits z)
  size_fits = (fit_long run.lent z (began.answer.0 refl)).0

  from_opened : (rs ≡ answers (opened z) (map as_step cs)) × (m ≡ after (opened z) (map as_step cs))
  from_opened = rw (began.fresh refl) at (runs_line run.line m cs rs run.runs)

  book_answers : rs ≡ B.answers z (B.opened z) (map as_step cs)
  unfolding D.Demand2
  book_answers = from_opened.0 ∙ R.demand2 z (map as_step cs) size_fits

pub demand2 : Demand2
unfolding Demand2
demand2 = book_answers

pub counted : Counted
unfolding Counted BD.Counting
counted z cs rs m run = rw (book_answers z cs rs m run) (counting z (map as_step cs))

pub handed : Handed
unfolding Handed BD.Handed BD.NeverTwice
handed z cs rs m run = rw (book_answers z cs rs m run) (H.handed_over z (map as_step cs), never_twice z (map as_step cs))

pub rows_kept : RowsKept
unfolding RowsKept D.LineRowsKept
rows_kept z cs rs m run = rw (from_opened z cs rs m run).0 (R.line_rows_kept z (map as_step cs) (size_fits z cs rs m run))

pub always_sound : AlwaysSound
unfolding AlwaysSound D.AlwaysSound
always_sound z cs rs m run r e = check_is m r e ∙ ap check (from_opened z cs rs m run).1 ∙ R.always_sound z (map as_step cs) (size_fits z cs rs m run)

pub demand3 : Demand3
unfolding Demand3 BD.Bounded
demand3 z cs rs m run = rw (book_answers z cs rs m run) (bounded z (map as_step cs))

-- ---- the survey

module _ (l : Line) where
  surveyed : SurveySays l (survey l)
  unfolding D.SurveyGuarded D.SurveyTells
  surveyed =
      let g = G.survey_guarded l in
      record {
        unfit = g.0;
        damaged = g.1;
        answer = g.2;
        names = λ f s. let t = S.survey_tells l f s in record {
          bits = t.bits;
          looks = λ d b s r m i k q e. subst (λ (o : Outcome). (D.bit_at (found (survey l)).mask b ≡ 1) ↔ ((place : ℕ) × (o.answer ≡ Seen place))) (sym (step_is l m s r e)) (t.looks d b s i k q);
          count = t.count;
          lowest = t.lowest;
        };
      }

pub survey_told : SurveyTold
unfolding SurveyTold
survey_told l v e = rw (survey_is l v e) (surveyed l)
