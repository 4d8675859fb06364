-- What an order answers, and the line that it leaves.
-- Of its puts all are taken, or one is the first that is refused (`first`). After the labels placed so far an order goes on as a
-- shorter one (`goes_on`), so in either case its outcome is known: WHOLE, or that refusal with the number placed. `Said` has for each
-- answer when it is given and which line is left: one way `Ordered` is read off the answer, the other way the answer is computed.
use Rattle.std.proofs.Common.{◌≡◌, ℕ, zero, suc, ◌+◌, ◌-◌, ◌<◌, T, ◌≢◌, ◌⊎◌, Ok, Err, refl, ◌∙◌, subst, inl, inr, ⊎_elim, add-zero, suc-add, zero-add, arith}
use Rattle.words.specs.declared.Answer.{Answer}
use Rattle.words.specs.declared.Answer.TheVariants.{Whole, Refused}
use Rattle.words.specs.declared.Refusal.{Refusal}
use Rattle.words.specs.declared.Refusal.TheVariants.{Range}
use Rattle.book.specs.Sizes.{Size, is_order}
use Rattle.book.specs.declared.Deed.TheVariants.{Order as order}
use Rattle.book.specs.Verdicts.{Verdict, takes, refuses}
use Rattle.book.proofs.Choice.{by_test, T→true, by_order}
use Rattle.line.specs.Line.{Line, Outcome, says, size_of, may_put, with_label, put_many, order_step, does, size_in}
use Rattle.line.specs.Rules.{Sound}
use Rattle.line.specs.Calls.{step, orders}
use Rattle.line.specs.Refusals.{When, after_puts, Places}
use Rattle.line.specs.Demands.{Ordered, OrderedWhen, StepIsOrder}
use Rattle.line.proofs.Check.{blocks}
use Rattle.line.proofs.Refusals.{out_of_range, OfAnswer, put_range, when_refused}
use Rattle.line.proofs.Guards.{orders_does}

-- a proof by a verdict
verdicts : {C : Type 0} (v : Verdict) → (v ≡ takes → C) → ((w : Refusal) → v ≡ refuses w → C) → C
verdicts (Ok tt) f g = f refl
verdicts (Err w) f g = g w refl

shift : (a m : ℕ) → a + suc m ≡ suc a + m
shift a m = omega arith

-- ---- n puts, of labels from a on

module _ (z : Size) where
  -- the first label is placed, and then the others
  places_first : (n : ℕ) (l : Line) (a : ℕ) → Places z (suc n) l a → may_put z l a ≡ takes
  unfolding after_puts
  places_first n l a p = rw (add-zero a) at (p 0 (omega arith))

  places_rest : (n : ℕ) (l : Line) (a : ℕ) → Places z (suc n) l a → Places z n (with_label z l a) (suc a)
  unfolding after_puts
  places_rest n l a p m h = rw (shift a m) at (p (suc m) (omega arith))

  goes_on : (m n : ℕ) (l : Line) (a c : ℕ) → Places z m l a → put_many z (m + n) l a c ≡ put_many z n (after_puts z m l a) (a + m) (c + m)
  unfolding put_many after_puts
  goes_on zero n l a c p = rw (zero-add n, add-zero a, add-zero c)
  goes_on (suc m) n l a c p =
      rw (suc-add m n, places_first m l a p, shift a m, shift c m) (goes_on m n (with_label z l a) (suc a) (suc c) (places_rest m l a p))

  -- put m of n is the first that is refused
  abbrev Stops : ℕ → Line → ℕ → Refusal → ℕ → Type 0
  Stops n l a w m = (m < n) × Places z m l a × (may_put z (after_puts z m l a) (a + m) ≡ refuses w)

  first : (n : ℕ) (l : Line) (a : ℕ) → Places z n l a ⊎ ((w : Refusal) × (m : ℕ) × Stops n l a w m)
  first zero l a = inl (λ m h. absurd (omega arith))
  first (suc n) l a =
      ⊎_elim
      (λ p. verdicts (may_put z (after_puts z n l a) (a + n))
      (λ e. inl (λ m h. by_order m n (λ b. p m b) (λ b. rw b e) (λ b. absurd (omega arith))))
      (λ w e. inr (w, n, (omega arith, p, e))))
      (λ x. let (w, m, s) = x in inr (w, m, (omega (arith, s.0), s.1, s.2))) (first n l a)

  module _ (n : ℕ) (l : Line) (a : ℕ) where
    all_placed : Places z n l a → put_many z n l a 0 ≡ says (after_puts z n l a) (Whole n)
    unfolding put_many
    all_placed p = rw (add-zero n, zero-add n) at (goes_on n 0 l a 0 p)

    one_refused : (w : Refusal) (m : ℕ) → Stops n l a w m → put_many z n l a 0 ≡ says (after_puts z m l a) (Refused w m)
    unfolding put_many
    one_refused w m s =
        let (h, p, e) = s in
        let split : n ≡ m + suc (n - suc m) = omega arith in
        rw (split, goes_on m (suc (n - suc m)) l a 0 p, e, zero-add m)

  -- a put leaves the size
  stored_size : (l : Line) (a : ℕ) → size_of (with_label z l a).head ≡ size_of l.head
  unfolding with_label
  stored_size l a = refl

  size_kept : (n : ℕ) (l : Line) (a : ℕ) → size_of (after_puts z n l a).head ≡ size_of l.head
  unfolding after_puts
  size_kept zero l a = refl
  size_kept (suc n) l a = size_kept n (with_label z l a) (suc a) ∙ stored_size l a

-- ---- an order from a to e

module _ (l : Line) (a e : ℕ) where
  abbrev count : ℕ
  count = suc e - a

  -- what an answer says, where line m is left
  abbrev Said : Line → Answer → Type 0
  Said m =
      OfAnswer
      (λ n. (m ≡ after_puts (size_in l) n l a) × T (is_order a e) × (n ≡ count) × Places (size_in l) n l a)
      (λ w n. (m ≡ after_puts (size_in l) n l a) × (((w ≡ Range) × When l Range (order a e) × (n ≡ 0)) ⊎ (T (is_order a e) × Stops (size_in l) count l a w n)))

  abbrev Says : Outcome → Type 0
  Says o = Said o.line o.answer

  told : Says (order_step (size_in l) l a e)
  unfolding order_step after_puts
  told =
      by_test Says (is_order a e)
      (λ t. ⊎_elim (λ p. rw (all_placed (size_in l) count l a p) (refl, t, refl, p))
      (λ x. let (w, n, s) = x in rw (one_refused (size_in l) count l a w n s) (refl, inr (t, s))) (first (size_in l) count l a))
      (λ t. (refl, inl (refl, (a, e, refl, (out_of_range a e).0 t), refl)))

  said : (x : Answer) → (order_step (size_in l) l a e).answer ≡ x → Said (order_step (size_in l) l a e).line x
  said x q = subst (Said (order_step (size_in l) l a e).line) q told

  no_range : (n : ℕ) → may_put (size_in l) (after_puts (size_in l) n l a) (a + n) ≢ refuses Range
  no_range n q = put_range (after_puts (size_in l) n l a) (a + n) (rw (size_kept (size_in l) n l a) q)

  module _ (pos : 0 < l.head.nb) (g : Sound l) where
    ordered : Ordered l a e (order_step (size_in l) l a e)
    unfolding order_step does
    ordered = record {
      range = λ n. (
        λ q. ⊎_elim (λ h. (h.1, h.2)) (λ h. absurd (no_range n h.1.2)) (said (Refused Range n) q).1,
        λ h. rw h.1 (when_refused l pos g Range (order a e) h.0),
      );
      whole = λ n. (λ q. let (_, t, c, p) = said (Whole n) q in (t, c, p), λ h. let (t, c, p) = h in rw (T→true (is_order a e) t, ← c, all_placed (size_in l) n l a p));
      stopped = λ w n x. (
        λ q. ⊎_elim (λ h. absurd (x h.0)) (λ h. let (t, s) = h in (t, s.0, s.1, s.2)) (said (Refused w n) q).1,
        λ h. let (t, b, p, r) = h in rw (T→true (is_order a e) t, one_refused (size_in l) count l a w n (b, p, r)),
      );
      placed = λ n q. (said (Whole n) q).0;
      kept = λ w n q. (said (Refused w n) q).0;
    }

pub ordered_when : OrderedWhen
unfolding OrderedWhen
ordered_when l a e f g = rw (orders_does l a e f g) (ordered l a e (blocks l f) g)

pub step_is_order : StepIsOrder
unfolding StepIsOrder step orders does
step_is_order l s a e q = rw q
