-- What opening gives back where the numbers and the lent lengths fit, and where not.
use Rattle.std.proofs.Common.{◌≡◌, ℕ, ◌≤◌, Bool, true, false, List, ◌++◌, length, take, drop, replicate, sym, refl, arith, le-leb}
use Rattle.std.proofs.lemmas.List.{length-take-le}
use Rattle.book.specs.Sizes.{Size}
use Rattle.line.specs.declared.Block.{Block}
use Rattle.line.specs.declared.Head.{Head}
use Rattle.line.specs.Line.{unused, opened}
use Rattle.line.specs.Calls.{open·line, open·unfit, opens}
use Rattle.line.specs.Tests.{fitting}
use Rattle.byvalue.specs.Lent.{line_of}
use Rattle.byvalue.specs.GivenBack.{put_back, given, began}
use Rattle.byvalue.proofs.GivenBack.{put_lent}
use Rattle.rules.proofs.Lengths.{fit_by, sized, sized_few}

module _ (t : List Block) (n : ℕ) (es : List ℕ) (z : Size) (long : length t ≡ 64) (b : Bool) (test : b ≡ fitting z n (length es)) where
  pub open_unfit : (h : Head) → b ≡ false → given open·unfit h t es ≡ began t n (opens (line_of h t n es) z)
  unfolding opens
  open_unfit h e = rw (fit_by z t n es long, ← test, e, put_lent t n) refl

  module _ (e : b ≡ true) where
    -- the lent records are all there
    pub lent_few : n ≤ length t
    lent_few = omega (arith, sized_few z n (length es) b test e)

    pub lent_all : n ≡ length (take n t)
    lent_all = sym (length-take-le n t lent_few)

    pub open_fits : (h g : Head) (u : List Block) (v : Block) (fs : List ℕ) → g ≡ (opened z).head → u ≡ replicate (length (take n t)) v → v ≡ unused → fs ≡ replicate (length es) 0
        → given open·line g (u ++ drop n t) fs ≡ began t n (opens (line_of h t n es) z)
    unfolding opens opened put_back
    open_fits h g u v fs gs us vs zs =
        let s = sized z n (length es) b test e in
        rw (gs, us, vs, ← lent_all, zs, fit_by z t n es long, ← test, e, le-leb n 64 (sized_few z n (length es) b test e), s.entries, ← s.blocks) refl
