-- Laws of what is given back: the lent records are put back in front, and the others stay as they are.
use Rattle.std.proofs.Common.{◌≡◌, ℕ, ◌<◌, ◌≤◌, leb, List, drop, set, sym, refl, ap, leb→le, take-append-drop, drop-set-lt, le-leb}
use Rattle.words.specs.declared.Answer.{Answer}
use Rattle.words.specs.declared.Answer.TheVariants.{Refused}
use Rattle.words.specs.declared.Refusal.{Refusal}
use Rattle.book.proofs.Choice.{cases, not→false}
use Rattle.line.specs.declared.Block.{Block}
use Rattle.line.specs.declared.Head.{Head}
use Rattle.line.specs.Line.{says, refuse}
use Rattle.byvalue.specs.Lent.{lent_table, line_of}
use Rattle.byvalue.specs.GivenBack.{put_back, given, back_of}
use Rattle.byvalue.proofs.Lent.{lent_take, lent_set}

module _ (n : ℕ) (few : n ≤ 64) where
  -- where u is t but for the lent records
  put_back_lem : (t u : List Block) → drop n u ≡ drop n t → put_back t n (lent_table u n) ≡ u
  unfolding put_back
  put_back_lem t u e = rw (lent_take n few u, le-leb n 64 few, ← e) (take-append-drop n u)

  pub put_set : (t : List Block) (i : ℕ) (c : Block) → i < n → put_back t n (set (lent_table t n) i c) ≡ set t i c
  put_set t i c h = rw (← lent_set n few t i c h) (put_back_lem t (set t i c) (drop-set-lt n t i c h))

  -- what a call gives back that leaves the others
  pub back_lent : (t u : List Block) (h : Head) (es : List ℕ) (a : Answer) → drop n u ≡ drop n t → given a h u es ≡ back_of t n (says (line_of h u n es) a)
  back_lent t u h es a e = rw (put_back_lem t u e)

-- ---- however many records were lent, also where they fit no line

pub put_lent : (t : List Block) (n : ℕ) → put_back t n (lent_table t n) ≡ t
unfolding put_back
put_lent t n = cases (leb n 64) (λ s. put_back_lem n (leb→le n 64 s) t t refl) (λ s. rw (not→false (leb n 64) s) refl)

-- a refusal gives back what came
pub refused : (h : Head) (t : List Block) (n : ℕ) (es : List ℕ) (w : Refusal) → given (Refused w 0) h t es ≡ back_of t n (refuse (line_of h t n es) w)
refused h t n es w = ap (λ (u : List Block). given (Refused w 0) h u es) (sym (put_lent t n))
