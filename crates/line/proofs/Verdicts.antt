-- Laws of the verdicts that line and book share: what follows from one verdict on both sides, and what a verdict that
-- takes says. A test is asked only where it matters, and so two tests that agree there give one verdict: whether a row
-- waits, of a current turn above K; BUSY, of the turn that stands NB before the one to be started.
use Rattle.std.proofs.Common.{◌≡◌, ℕ, ◌+◌, ◌<◌, ◌≤◌, Bool, ◌&&◌, ltb, leb, Ok, Err, refl, subst, leb→le, nltb→le}
use Rattle.std.proofs.Math.Dec.{nleb→lt}
use Rattle.words.specs.declared.Refusal.{Refusal}
use Rattle.words.specs.declared.Refusal.TheVariants.{Nodesk, Noblock, Owned, Nothing}
use Rattle.book.specs.Sizes.{Size, current_turn, is_owned}
use Rattle.book.specs.declared.DeskStep.{DeskStep}
use Rattle.book.specs.Steps.{Desk}
use Rattle.book.specs.Verdicts.{Verdict, takes, refuses, judge, stage, column, at_stage, no_block, admitted, lookable, startable, placeable}
use Rattle.book.proofs.Choice.{by_test, cases, T→true, not→false, and_first}

-- ---- one verdict on both sides

pub by_verdict₂ : {A B : Type 0} (P : A → B → Type 0) (v u : Verdict) {x : A} {f : Refusal → A} {y : B} {h : Refusal → B} → v ≡ u
    → (v ≡ takes → P x y) → ((w : Refusal) → P (f w) (h w)) → P (judge v x f) (judge u y h)
by_verdict₂ P v u {x} {f} {y} {h} e g r = subst (λ (c : Verdict). P (judge v x f) (judge c y h)) e (both v g r)
  where
    both : (c : Verdict) → (c ≡ takes → P x y) → ((w : Refusal) → P (f w) (h w)) → P (judge c x f) (judge c y h)
    both (Ok tt) g r = g refl
    both (Err w) g r = r w

-- ---- a refusal does not take

pub refuses_not : (w : Refusal) → refuses w ≡ takes → ⊥
refuses_not w e = cc

module _ (z : Size) where
  -- ---- a desk's step

  pub admitted_takes : {A : Type 0} (d : ℕ) (s : DeskStep) (x : Desk A) → admitted z d s x ≡ takes → (d < z.t) × (at_stage (stage x) (column s) ≡ takes)
  unfolding admitted
  admitted_takes d s x =
      by_test (λ v. v ≡ takes → (d < z.t) × (at_stage (stage x) (column s) ≡ takes)) (leb z.t d) (λ _ e. absurd (refuses_not Nodesk e)) (λ h.
      by_test (λ v. v ≡ takes → (d < z.t) × (at_stage (stage x) (column s) ≡ takes)) (no_block z s) (λ _ e. absurd (refuses_not Noblock e)) (λ _ e.
      (nleb→lt z.t d h, e)))

  -- ---- a look

  module _ (p k i : ℕ) where
    pub lookable_same : (a c : Bool) → (i ≤ p → k < current_turn z p i → a ≡ c) → lookable z p k i a ≡ lookable z p k i c
    unfolding lookable is_owned
    lookable_same a c h =
        cases (leb i p)
        (λ u. cases (leb (current_turn z p i) k)
        (λ o. rw (T→true (leb i p) u, T→true (leb (current_turn z p i) k) o))
        (λ o. rw (h (leb→le i p u) (nleb→lt (current_turn z p i) k o))))
        (λ u. rw (not→false (leb i p) u))

    pub lookable_takes : (a : Bool) → lookable z p k i a ≡ takes → (i ≤ p) × (k < current_turn z p i)
    unfolding lookable is_owned
    lookable_takes a =
        by_test (λ v. v ≡ takes → (i ≤ p) × (k < current_turn z p i)) (is_owned z p k i) (λ _ e. absurd (refuses_not Owned e)) (λ o.
        by_test (λ v. v ≡ takes → (i ≤ p) × (k < current_turn z p i)) (leb i p && a)
        (λ u _. let w = and_first (leb i p) a u in (leb→le i p w, nleb→lt (current_turn z p i) k (rw (T→true (leb i p) w) at o)))
        (λ _ e. absurd (refuses_not Nothing e)))

  -- ---- a put

  pub placeable_same : (p n k : ℕ) (f h : Bool) (a : ℕ) → (z.nb ≤ p + 1 → f ≡ h) → placeable z p n k f a ≡ placeable z p n k h a
  unfolding placeable startable
  placeable_same p n k f h a e =
      cases (ltb (p + 1) z.nb) (λ s. rw (T→true (ltb (p + 1) z.nb) s)) (λ s. rw (e (nltb→le (p + 1) z.nb s)))
