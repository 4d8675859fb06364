-- The survey tells the truth: bit b of its mask is an idle desk's look at block b, its count is the ones of the mask, and
-- its lowest is the lowest of them, or 64. First the laws of a mask of Booleans: a Boolean in front doubles the mask and puts
-- its bit in. Then the Booleans of the survey are the looks at the blocks, and past the last block a look is refused too.
use Rattle.std.proofs.Common.{◌≡◌, ℕ, zero, suc, ◌+◌, ◌-◌, ◌*◌, ◌/◌, ◌^◌, ◌<◌, ◌≤◌, Bool, true, false, not, ◌&&◌, T, eqb, ◌≢◌, ◌↔◌, List, [], ◌∷◌, length, get_or, Ok, Err, sym, refl, ap, ◌∙◌, add-zero, add-suc, mul_comm, suc-add, pow-suc, zero-add, arith, le-leb}
use Rattle.std.proofs.lemmas.Bool.{lt-leb}
use Rattle.std.proofs.Math.Nat.{sub-zero, zero-div, div-div-eq-div-mul}
use Rattle.words.specs.declared.Answer.{Answer}
use Rattle.words.specs.declared.Answer.TheVariants.{Put, Got, Took, Whole, Seen, Claimed, Done, Refused}
use Rattle.words.specs.declared.Refusal.{Refusal}
use Rattle.book.specs.Total.{total}
use Rattle.book.specs.Sizes.{fits}
use Rattle.book.specs.declared.DeskStep.TheVariants.{Look as look}
use Rattle.book.specs.declared.Deed.TheVariants.{Desk as desk}
use Rattle.book.specs.Steps.{Step, idle, decode}
use Rattle.book.specs.Verdicts.{Verdict, judge, admitted}
use Rattle.book.proofs.Choice.{by_test, choose_true, choose_false, and_first}
use Rattle.line.specs.Line.{Line, Spot, Outcome, size_of, desk_at, desk_step, does, size_in}
use Rattle.line.specs.Rules.{Sound}
use Rattle.line.specs.Check.{fit}
use Rattle.line.specs.Calls.{step}
use Rattle.line.specs.Survey.{surveyed, found, is_seen, seen_from, bit, mask_of, lowest_from, views, surveys, survey}
use Rattle.line.specs.Demands.{bit_at, ones, LeastBit, CheckSound, SurveyTells}
use Rattle.line.proofs.DeskMoves.{look_step, does_look}
use Rattle.line.proofs.Cells.{valid}
use Rattle.line.proofs.Check.{check_sound}
use Rattle.line.proofs.Guards.{step_does}

-- ---- a mask with one bit in front

pub bit_le : (x : Bool) → bit x ≤ 1
bit_le true = omega arith
bit_le false = omega arith

module _ (x : Bool) (m : ℕ) where
  bit_first : bit_at (bit x + 2 * m) 0 ≡ bit x
  bit_first = omega (arith, bit_le x)

  bit_next : (b : ℕ) → bit_at (bit x + 2 * m) (suc b) ≡ bit_at m b
  bit_next b =
      let half : (bit x + 2 * m) / 2 ≡ m = omega (arith, bit_le x) in
      rw (pow-suc 2 b, mul_comm (2 ^ b) 2, ← (div-div-eq-div-mul (bit x + 2 * m) 2 (2 ^ b)), half) refl

  ones_next : (n : ℕ) → ones (suc n) (bit x + 2 * m) ≡ bit x + ones n m
  unfolding ones
  ones_next zero = omega (arith, bit_first)
  ones_next (suc n) = omega (arith, bit_next n, ones_next n)

bit_none : (b : ℕ) → bit_at 0 b ≡ 0
bit_none b = rw (zero-div (2 ^ b)) refl

ones_none : (n : ℕ) → ones n 0 ≡ 0
unfolding ones
ones_none zero = refl
ones_none (suc n) = omega (arith, bit_none n, ones_none n)

-- ---- the mask of a list of Booleans

pub mask_bit : (bs : List Bool) (b : ℕ) → bit_at (mask_of bs) b ≡ bit (get_or bs b false)
unfolding mask_of
mask_bit [] b = bit_none b
mask_bit (x ∷ bs) zero = bit_first x (mask_of bs)
mask_bit (x ∷ bs) (suc b) = bit_next x (mask_of bs) b ∙ mask_bit bs b

pub mask_ones : (bs : List Bool) (n : ℕ) → length bs ≤ n → total bit bs ≡ ones n (mask_of bs)
unfolding mask_of total
mask_ones [] n h = sym (ones_none n)
mask_ones (x ∷ bs) zero h = absurd (omega arith)
mask_ones (x ∷ bs) (suc n) h = omega (arith, ones_next x (mask_of bs) n, mask_ones bs n (omega arith))

-- the least bit of a mask whose bit 0 is block i's
record LeastFrom (i mask r : ℕ) : Type 0 where
  from : i ≤ r
  none_below : (c : ℕ) → i + c < r → bit_at mask c ≡ 0
  set : r ≢ 64 → bit_at mask (r - i) ≡ 1
  none : r ≡ 64 → mask ≡ 0

module _ (x : Bool) (m i : ℕ) where
  least_here : T x → i < 64 → LeastFrom i (bit x + 2 * m) i
  least_here t h =
      let is : bit x ≡ 1 = choose_true x 1 0 t in
      let start : i - i ≡ 0 = omega arith in
      record {
        from = omega arith;
        none_below = λ c k. absurd (omega arith);
        set = λ _. rw start (bit_first x m ∙ is);
        none = λ e. absurd (omega arith);
      }

  least_later : T (not x) → (r : ℕ) → LeastFrom (suc i) m r → LeastFrom i (bit x + 2 * m) r
  least_later t r w =
      let is : bit x ≡ 0 = choose_false x 1 0 t in
      let far : r - i ≡ suc (r - suc i) = omega (arith, w.from) in
      record {
        from = omega (arith, w.from);
        none_below = elim [ zero ↦ λ _. bit_first x m ∙ is | suc c ↦ λ k. bit_next x m c ∙ w.none_below c (omega arith) ];
        set = λ k. rw far (bit_next x m (r - suc i) ∙ w.set k);
        none = λ e. omega (arith, w.none e);
      }

mask_least : (bs : List Bool) (i : ℕ) → i + length bs ≤ 64 → LeastFrom i (mask_of bs) (lowest_from i bs)
unfolding mask_of lowest_from
mask_least [] i h = record { from = omega arith; none_below = λ c _. bit_none c; set = λ k. absurd (k refl); none = λ _. refl }
mask_least (x ∷ bs) i h =
    by_test (LeastFrom i (bit x + 2 * mask_of bs)) x (λ t. least_here x (mask_of bs) i t (omega arith))
    (λ t. least_later x (mask_of bs) i t (lowest_from (suc i) bs) (mask_least bs (suc i) (omega arith)))

pub mask_lowest : (bs : List Bool) → length bs ≤ 64 → LeastBit (mask_of bs) (lowest_from 0 bs)
mask_lowest bs h =
    let w = mask_least bs 0 (omega arith) in
    record {
      none_below = λ c k. w.none_below c (omega arith);
      set = λ k. rw sub-zero at (w.set k);
      none = w.none;
    }

-- ---- the looks of an idle desk

-- the answer of a verdict's outcome is the verdict's answer
judge_answer : (v : Verdict) (x : Outcome) (f : Refusal → Outcome) → (judge v x f).answer ≡ judge v x.answer (λ w. (f w).answer)
judge_answer (Ok u) x f = refl
judge_answer (Err w) x f = refl

module _ (l : Line) where
  abbrev seen : ℕ → ℕ → Bool
  seen d b = is_seen (desk_step (size_in l) l d (look b) idle).answer

  -- every desk of the line sees the same
  admitted_same : (d e b : ℕ) → d < l.head.t → e < l.head.t → admitted (size_in l) {A = Spot} d (look b) idle ≡ admitted (size_in l) {A = Spot} e (look b) idle
  unfolding admitted
  admitted_same d e b h k = rw (lt-leb l.head.t d h, lt-leb l.head.t e k) refl

  look_same : (d e b : ℕ) → (look_step (size_in l) l d b).answer ≡ (look_step (size_in l) l e b).answer
  unfolding look_step
  look_same d e b = simp judge_answer

  seen_same : (d e b : ℕ) → d < l.head.t → e < l.head.t → seen d b ≡ seen e b
  unfolding desk_step
  seen_same d e b h k = simp (judge_answer, admitted_same d e b h k, does_look (size_in l) l d, does_look (size_in l) l e, look_same d e b)

  -- and none sees a block that is not there
  seen_past : (d b : ℕ) → d < l.head.t → l.head.nb ≤ b → seen d b ≡ false
  unfolding desk_step admitted
  seen_past d b h k = rw (lt-leb l.head.t d h, le-leb l.head.nb b k) refl

  seen_at : 0 < l.head.t → (n i b : ℕ) → i + n ≡ l.head.nb → get_or (seen_from l i n) b false ≡ seen 0 (i + b)
  unfolding seen_from
  seen_at h zero i b e = sym (seen_past 0 (i + b) h (omega arith))
  seen_at h (suc n) i zero e = rw add-zero refl
  seen_at h (suc n) i (suc b) e = rw add-suc (seen_at h n (suc i) b (omega arith) ∙ rw suc-add refl)

  seen_length : (n i : ℕ) → length (seen_from l i n) ≡ n
  unfolding seen_from
  seen_length zero i = refl
  seen_length (suc n) i = ap suc (seen_length n (suc i))

  -- ---- the survey of a sound line

  abbrev blocks : List Bool
  blocks = seen_from l 0 l.head.nb

  at_most_64 : T (fit (size_in l) l.table l.entries) → length blocks ≤ 64
  unfolding fit
  at_most_64 f =
      let a = fits (size_in l) in let b = eqb (length l.table) l.head.nb in let c = eqb (length l.entries) (l.head.nb * l.head.ne) in
      omega (arith, seen_length l.head.nb 0, (valid (size_in l) (and_first a b (and_first (a && b) c f))).nb_most)

  module _ (f : T (fit (size_in l) l.table l.entries)) (s : Sound l) where
    survey_is : survey l ≡ surveyed (views blocks)
    unfolding survey surveys CheckSound
    survey_is = rw ((check_sound l).1 (f, s)) refl

    survey_bit : (d b : ℕ) → d < l.head.t → bit_at (found (survey l)).mask b ≡ bit (seen d b)
    unfolding views
    survey_bit d b h =
        let there : get_or blocks b false ≡ seen 0 (0 + b) = seen_at (omega arith) l.head.nb 0 b (omega arith) in
        rw survey_is (mask_bit blocks b ∙ ap bit (rw (zero-add, seen_same 0 d b (omega arith) h) at there))

    step_look : (d b : ℕ) (x : Step) → desk_at l.head d ≡ idle → decode x ≡ desk d (look b) → step l x ≡ desk_step (size_in l) l d (look b) idle
    unfolding does
    step_look d b x i e = step_does l x f s ∙ rw (e, i) refl

-- an answer's bit is 1 exactly if it is SEEN
bit_seen : (a : Answer) → bit (is_seen a) ≡ 1 → (place : ℕ) × (a ≡ Seen place)
bit_seen (Put label) e = absurd (omega arith)
bit_seen (Got label) e = absurd (omega arith)
bit_seen (Took label) e = absurd (omega arith)
bit_seen (Whole n) e = absurd (omega arith)
bit_seen (Seen place) e = (place, refl)
bit_seen (Claimed place) e = absurd (omega arith)
bit_seen Done e = absurd (omega arith)
bit_seen (Refused w n) e = absurd (omega arith)

seen_bit : (a : Answer) → (bit (is_seen a) ≡ 1) ↔ ((place : ℕ) × (a ≡ Seen place))
seen_bit a = (bit_seen a, λ p. ap (λ (x : Answer). bit (is_seen x)) p.1)

pub survey_tells : SurveyTells
unfolding SurveyTells views
survey_tells l f s = record {
  bits = λ d b h. rw (survey_bit l f s d b h) (seen_bit (desk_step (size_of l.head) l d (look b) idle).answer);
  looks = λ d b x i h e. rw (step_look l f s d b x i e, survey_bit l f s d b h) (seen_bit (desk_step (size_of l.head) l d (look b) idle).answer);
  count = rw (survey_is l f s) (mask_ones (blocks l) 64 (at_most_64 l f));
  lowest = rw (survey_is l f s) (mask_lowest (blocks l) (at_most_64 l f));
}
