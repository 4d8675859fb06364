-- The words of a line, one after the other: the first one, and those behind it.
use Rattle.std.proofs.Common.{◌≡◌, refl, sym, ap, subst, ◌∙◌, true, false, List, [], ◌∷◌, ℕ, zero, suc, ◌+◌, ◌≤◌, ◌<◌, length, length-append, length-drop, arith, T, eqb, eqb→eq, take-append-drop, true≢false}
use Rattle.std.specs.List.{position_or_len}
use Rattle.book.proofs.Choice.{cases, T→true, not→false, by_order}
use Rattle.text.specs.Pieces.{is_blank, is_letter, skip, word, behind, is_none, words_up_to, words}

pub none_long : (w : List ℕ) → 1 ≤ length w → is_none w ≡ false
none_long [] h = absurd (omega arith)
none_long (b ∷ w) h = refl

pub none_short : (w : List ℕ) → length w ≡ 0 → is_none w ≡ true
none_short [] h = refl
none_short (b ∷ w) h = absurd (omega arith)

pub some_long : (w : List ℕ) → is_none w ≡ false → 1 ≤ length w
some_long [] h = absurd (let z : T false = subst T h tt in z)
some_long (b ∷ w) h = omega arith

pub skip_short : (l : List ℕ) → length (skip l) ≤ length l
unfolding skip
skip_short l = omega (arith, length-drop (position_or_len is_letter l) l)

-- a word, and what stands behind it, are no longer than the line
pub pieces_short : (l : List ℕ) → length (word l) + length (behind l) ≤ length l
unfolding word behind
pieces_short l =
    let k = position_or_len is_blank (skip l) in
    let b = length-append (word l) (behind l) in
    let c = ap length (take-append-drop k (skip l)) in let d = skip_short l in
    omega arith

behind_less : (l : List ℕ) → is_none (word l) ≡ false → length (behind l) < length l
behind_less l h = let a = some_long (word l) h in let b = pieces_short l in omega arith

upto_none : (k : ℕ) (l : List ℕ) → is_none (word l) ≡ true → words_up_to k l ≡ []
unfolding words_up_to
upto_none zero l e = refl
upto_none (suc k) l e = rw e refl

upto_some : (k : ℕ) (l : List ℕ) → is_none (word l) ≡ false → words_up_to (suc k) l ≡ word l ∷ words_up_to k (behind l)
unfolding words_up_to
upto_some k l e = rw e refl

upto_same : (k j : ℕ) (l : List ℕ) → length l ≤ k → length l ≤ j → words_up_to k l ≡ words_up_to j l
upto_same zero j l h g =
    cases (is_none (word l))
    (λ t. let e = T→true (is_none (word l)) t in upto_none zero l e ∙ sym (upto_none j l e))
    (λ t. absurd (omega (arith, behind_less l (not→false (is_none (word l)) t))))
upto_same (suc k) zero l h g =
    cases (is_none (word l))
    (λ t. let e = T→true (is_none (word l)) t in upto_none (suc k) l e ∙ sym (upto_none zero l e))
    (λ t. absurd (omega (arith, behind_less l (not→false (is_none (word l)) t))))
upto_same (suc k) (suc j) l h g =
    let more = upto_same k j (behind l) in
    cases (is_none (word l))
    (λ t. let e = T→true (is_none (word l)) t in upto_none (suc k) l e ∙ sym (upto_none (suc j) l e))
    (λ t.
    let e = not→false (is_none (word l)) t in let b = behind_less l e in
    upto_some k l e ∙ ap (λ (ws : List (List ℕ)). word l ∷ ws) (more (omega arith) (omega arith)) ∙ sym (upto_some j l e))

words_none : (l : List ℕ) → is_none (word l) ≡ true → words l ≡ []
unfolding words
words_none l e = upto_none (length l) l e

words_some : (l : List ℕ) → is_none (word l) ≡ false → words l ≡ word l ∷ words (behind l)
unfolding words
words_some [] e = absurd (omega (arith, behind_less [] e))
words_some (b ∷ m) e =
    let h = behind_less (b ∷ m) e in
    upto_some (length m) (b ∷ m) e
    ∙ ap (λ (ws : List (List ℕ)). word (b ∷ m) ∷ ws) (upto_same (length m) (length (behind (b ∷ m))) (behind (b ∷ m)) (omega arith) (omega arith))

-- ---- by the word that was found

pub zero_is : (n : ℕ) → true ≡ eqb n 0 → n ≡ 0
zero_is n h = eqb→eq n 0 (subst T h tt)

pub some_is : (n : ℕ) → false ≡ eqb n 0 → 1 ≤ n
some_is n h = by_order n 0 (λ g. absurd (omega arith)) (λ e. absurd (true≢false (sym (h ∙ ap (λ k. eqb k 0) e)))) (λ g. omega arith)

module _ (l w : List ℕ) (is : w ≡ word l) where
  pub words_end : true ≡ eqb (length w) 0 → words l ≡ []
  words_end h = words_none l (ap is_none (sym is) ∙ none_short w (zero_is (length w) h))

  pub words_next : (m : List ℕ) → m ≡ behind l → false ≡ eqb (length w) 0 → words l ≡ w ∷ words m
  words_next m e h = words_some l (ap is_none (sym is) ∙ none_long w (some_is (length w) h)) ∙ rw (← is, ← e) refl

-- a line has no more words than bytes
words_few_up_to : (k : ℕ) (l : List ℕ) → length (words_up_to k l) ≤ k
unfolding words_up_to
words_few_up_to zero l = omega arith
words_few_up_to (suc k) l =
    let h = words_few_up_to k (behind l) in
    cases (is_none (word l)) (λ t. rw (T→true (is_none (word l)) t) (omega arith)) (λ t. rw (not→false (is_none (word l)) t) (omega arith))

pub words_few : (l : List ℕ) → length (words l) ≤ length l
unfolding words
words_few l = words_few_up_to (length l) l
