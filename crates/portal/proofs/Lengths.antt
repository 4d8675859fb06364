-- How many records and how long: no call changes the number of lent records, and more than 64 fit no line.
use Rattle.std.proofs.Common.{◌≡◌, ℕ, zero, suc, ◌-◌, ◌*◌, ◌<◌, false, ◌&&◌, T, eqb, length, refl, sym, ◌∙◌, arith, eqb→eq, length-set}
use Rattle.std.proofs.lemmas.List.{length-replicate}
use Rattle.words.specs.declared.Refusal.TheVariants.{Unfit as Refusal·unfit}
use Rattle.book.specs.Choice.{◌<ᵇ◌}
use Rattle.book.specs.Sizes.{Size, fits, is_order}
use Rattle.book.specs.declared.DeskStep.{DeskStep}
use Rattle.book.specs.declared.Deed.{Deed}
use Rattle.book.specs.declared.Deed.TheVariants.{Put as put, Get as get, Order as order, Desk as desk, Unlisted as unlisted}
use Rattle.book.specs.Steps.{Step, Hold, decode, hold_of}
use Rattle.book.specs.Verdicts.{admitted}
use Rattle.book.proofs.Choice.{by_test, by_verdict, cases, not→false, and_first, and_second}
use Rattle.line.specs.Line.{Line, Outcome, Spot, size_of, nowhere, refuse, unused, desk_at, record_of, may_put, with_label, put_step, put_many, order_step}
use Rattle.line.specs.Line.{read_at, get_step, desk_does, desk_step, does, opened}
use Rattle.line.specs.Check.{unfit, fit, check}
use Rattle.line.specs.Calls.{Opened, open·unfit, opens, passes, step, orders}
use Rattle.line.specs.Survey.{survey·unfit, survey, surveys}
use Rattle.line.proofs.Cells.{valid}

-- ---- every step

module _ (z : Size) where
  stored_long : (l : Line) (a : ℕ) → length (with_label z l a).table ≡ length l.table
  unfolding with_label
  stored_long l a = length-set l.table _ _

  many_long : (n : ℕ) (l : Line) (a count : ℕ) → length (put_many z n l a count).line.table ≡ length l.table
  unfolding put_many
  many_long zero l a count = refl
  many_long (suc n) l a count =
      by_verdict (λ (o : Outcome). length o.line.table ≡ length l.table) (may_put z l a)
      (λ _. many_long n (with_label z l a) (suc a) (suc count) ∙ stored_long l a) (λ _ _. refl)

  module _ (l : Line) where
    abbrev AsLong : Outcome → Type 0
    AsLong o = length o.line.table ≡ length l.table

    order_long : (a e : ℕ) → AsLong (order_step z l a e)
    unfolding order_step
    order_long a e = by_test AsLong (is_order a e) (λ _. many_long (suc e - a) l a 0) (λ _. refl)

    read_long : (s : Spot) → AsLong (read_at z l s)
    unfolding read_at
    read_long s = by_test AsLong (s.place <ᵇ (record_of z l.table s.turn).written) (λ _. refl) (λ _. refl)

    desk_long : (d : ℕ) (h : Hold Spot) (s : DeskStep) → AsLong (desk_does z l d h s)
    unfolding desk_does
    desk_long d h s = length-set l.table _ _

    does_long : (e : Deed) → AsLong (does z l e)
    unfolding does put_step get_step desk_step
    does_long (put a) = by_verdict AsLong (may_put z l a) (λ _. stored_long l a) (λ _ _. refl)
    does_long get = read_long _
    does_long (order a e) = order_long a e
    does_long (desk d s) =
        let x = desk_at l.head d in
        by_verdict AsLong (admitted z d s x) (λ _. desk_long d (hold_of nowhere x) s) (λ _ _. refl)
    does_long unlisted = refl

-- ---- the calls, on any line

module _ (l : Line) where
  pub step_long : (s : Step) → length (step l s).line.table ≡ length l.table
  unfolding step
  step_long s = by_verdict (AsLong (size_of l.head) l) (passes (check l)) (λ _. does_long (size_of l.head) l (decode s)) (λ _ _. refl)

  pub orders_long : (a e : ℕ) → length (orders l a e).line.table ≡ length l.table
  unfolding orders
  orders_long a e = by_verdict (AsLong (size_of l.head) l) (passes (check l)) (λ _. order_long (size_of l.head) l a e) (λ _ _. refl)

  -- numbers and lengths that fit say how many records there are
  pub fit_long : (z : Size) → T (fit z l.table l.entries) → T (fits z) × (length l.table ≡ z.nb)
  unfolding fit
  fit_long z f =
      let a = fits z in let b = eqb (length l.table) z.nb in let c = eqb (length l.entries) (z.nb * z.ne) in
      let ab = and_first (a && b) c f in
      (and_first a b ab, eqb→eq (length l.table) z.nb (and_second a b ab))

  pub opens_long : (z : Size) → length (opens l z).line.table ≡ length l.table
  unfolding opens opened
  opens_long z =
      by_test (λ (o : Opened). length o.line.table ≡ length l.table) (fit z l.table l.entries)
      (λ t. length-replicate z.nb unused ∙ sym (fit_long z t).1) (λ _. refl)

  -- ---- more than 64 records

  module _ (many : 64 < length l.table) where
    fits_none : (z : Size) → fit z l.table l.entries ≡ false
    fits_none z =
        let f = fit z l.table l.entries in
        cases f (λ t. absurd (let e = fit_long z t in let v = valid z e.0 in omega (arith, e.1, v.nb_most))) (not→false f)

    pub check_many : check l ≡ unfit
    unfolding check
    check_many = rw (fits_none (size_of l.head)) refl

    pub survey_many : survey l ≡ survey·unfit
    unfolding survey surveys
    survey_many = rw check_many refl

    pub step_many : (s : Step) → step l s ≡ refuse l Refusal·unfit
    unfolding step
    step_many s = rw check_many refl

    pub orders_many : (a e : ℕ) → orders l a e ≡ refuse l Refusal·unfit
    unfolding orders
    orders_many a e = rw check_many refl

    pub opens_many : (z : Size) → opens l z ≡ record { line = l; answer = open·unfit }
    unfolding opens
    opens_many z = rw (fits_none z) refl
