-- What is left to say once i steps are played, the line is l, and the steps in the bytes `left` are not: it begins with
-- the answer of step i + 1, and at the end only a step cut short is left. Whoever writes the rest has written the whole.
use Rattle.std.proofs.Common.{◌≡◌, refl, sym, subst, ◌∙◌, Bool, true, false, List, [], ◌∷◌, ◌++◌, ℕ, suc, ◌+◌, ◌≤◌, ◌<◌, length, drop, append-nil, add-one}
use Rattle.line.specs.Line.{Line, Outcome}
use Rattle.line.specs.Calls.{step, answers}
use Rattle.schedule.specs.Bytes.{header_bytes, step_bytes, step_at, whole_steps, is_cut}
use Rattle.schedule.proofs.Chunks.{steps_in, steps_next, steps_none, steps_all}
use Rattle.printing.specs.declared.Page.{Page}
use Rattle.printing.specs.Page.{Wrote}
use Rattle.printing.proofs.Stores.{wrote_more, wrote_none}
use Rattle.player.specs.Spoken.{Spoken, spoken, numbered, cut_at, cut_short, run}
use Rattle.player.specs.Printed.{line, printed}

module _ (bs : List ℕ) where
  pub rest_of : ℕ → List ℕ → Line → List Spoken
  rest_of i left l = numbered (suc i) (answers l (steps_in left)) ++ cut_short bs

  rest_all : header_bytes ≤ length bs → (l : Line) → rest_of 0 (drop header_bytes bs) l ≡ run bs l
  unfolding rest_of run
  rest_all h l = rw (steps_all bs h) refl

  rest_next : (i : ℕ) (bytes left : List ℕ) (l : Line) → length bytes ≡ step_bytes
      → let o = step l (step_at bytes 0) in rest_of i (bytes ++ left) l ≡ spoken (suc i) o.answer ∷ rest_of (i + 1) left o.line
  unfolding rest_of numbered answers
  rest_next i bytes left l h = rw (steps_next bytes left h, add-one i) refl

  rest_last : (i : ℕ) (left : List ℕ) (l : Line) → length left < step_bytes → rest_of i left l ≡ cut_short bs
  unfolding rest_of numbered answers
  rest_last i left l h = rw (steps_none left h) refl

  -- ---- what is written, and what is left

  -- i steps are played, the line is l, and the page is p: whoever writes the rest there has written xs on o
  pub Continues : List ℕ → Page → ℕ → List ℕ → Line → Page → Type 0
  Continues xs o i left l p = (q : Page) → Wrote (printed (rest_of i left l)) p q → Wrote xs o q

  pub none_played : (i : ℕ) (left : List ℕ) (l : Line) (p : Page) → header_bytes ≤ length bs → i ≡ 0 → left ≡ drop header_bytes bs → Continues (printed (run bs l)) p i left l p
  unfolding Continues
  none_played i left l p h e f q w = let all : rest_of i left l ≡ run bs l = rw (e, f) (rest_all h l) in rw all at w

  module _ (xs : List ℕ) (o : Page) (i : ℕ) (left : List ℕ) (l : Line) (p : Page) (g : Continues xs o i left l p) where
    wrote_rest : (ss : List Spoken) (q : Page) → rest_of i left l ≡ ss → Wrote (printed ss) p q → Wrote xs o q
    unfolding Continues
    wrote_rest ss q e w = g q (subst (λ (r : List Spoken). Wrote (printed r) p q) (sym e) w)

    pub one_played : (bytes behind : List ℕ) (z : Outcome) (n : ℕ) (q : Page) → left ≡ bytes ++ behind → length bytes ≡ step_bytes
        → z ≡ step l (step_at bytes 0) → n ≡ suc i → Wrote (line (spoken n z.answer)) p q → Continues xs o (i + 1) behind z.line q
    unfolding Continues printed
    one_played bytes behind z n q f h e k w r v =
        let ss = rest_of (i + 1) behind z.line in
        let next : rest_of i left l ≡ spoken n z.answer ∷ ss = rw (f, k, e) (rest_next i bytes behind l h) in
        wrote_rest (spoken n z.answer ∷ ss) r next (wrote_more (line (spoken n z.answer)) (printed ss) p q r w v)

    module _ (none : length left < step_bytes) (b : Bool) (c : b ≡ is_cut bs) where
      pub all_played : b ≡ false → p.len ≤ length p.room.now → Wrote xs o p
      unfolding printed cut_short
      all_played f h =
          let none_left : rest_of i left l ≡ [] = rest_last i left l none ∙ rw (← c, f) refl in
          wrote_rest [] p none_left (wrote_none p h)

      pub one_cut : (n : ℕ) (q : Page) → b ≡ true → n ≡ suc (whole_steps bs) → Wrote (line (cut_at n)) p q → Wrote xs o q
      unfolding printed cut_short
      one_cut n q t k w =
          let last : rest_of i left l ≡ cut_at n ∷ [] = rest_last i left l none ∙ rw (← c, t, k) refl in
          wrote_rest (cut_at n ∷ []) q last (rw (append-nil (line (cut_at n))) w)
