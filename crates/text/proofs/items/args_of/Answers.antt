use Rattle.std.proofs.Common.{sym, ap, subst, arith, ◌∙◌, length}
use Rattle.text.specs.Pieces.{words}
use Rattle.text.specs.declared.items.Args.{Args}
use Rattle.text.proofs.Words.{words_few}
use Rattle.text.proofs.Args.{Gathered, gathered_none, gathered_count, gathered_end, gathered_bad, gathered_more}
use Rattle.text.proofs.items.args_of.Goals as goal

pub loop-word-init : goal.loop-word-init
loop-word-init c = (tt, tt, rw c.into_iter-word-iterator.ensures.into_iter_gives (gathered_none (words c.args.line.now)))

pub returns-in_err-number_of : goal.returns-in_err-number_of
returns-in_err-number_of c =
    c.from_residual.ensures ∙ gathered_bad _ _ _ c.loop-word.invariant.2 _ _ c.in-Some.ensures.steps c.in_err-number_of.ensures

pub with-args-requires : goal.with-args-requires
with-args-requires c =
    let g = gathered_count _ _ _ c.loop-word.invariant.2 in
    let n = ap length c.in-Some.ensures.steps in
    let w = words_few c.args.line.now in
    omega arith

pub loop-word-preserved : goal.loop-word-preserved
loop-word-preserved c = (
  tt,
  tt,
  subst (λ (x : Args). Gathered (words c.args.line.now) (words c.next.new.self.0.now) x) (sym c.with-args.ensures)
      (gathered_more _ _ _ c.loop-word.invariant.2 _ _ c.in-Some.ensures.steps _ c.in_ok-number_of.ensures),
)

pub returns : goal.returns
returns c = gathered_end _ _ _ c.loop-word.invariant.2 c.in-None.ensures.steps.0
