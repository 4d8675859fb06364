-- A line that is refused, one that finds no room, and one that is written.
use Rattle.std.proofs.Common.{◌≡◌, List, ℕ, ◌+◌, length, subst, sym, ap, arith}
use Rattle.printing.specs.declared.Page.{Page}
use Rattle.printing.proofs.Stores.{writes_length}
use Rattle.text.proofs.Whole.{said_long, Going, stop_refused, stop_full, goes_on, going_end}
use Rattle.text.proofs.lines.fill.Goals as goal

-- by its number
numbered : (t rest : List ℕ) (before page : Page) (i k : ℕ) → i ≡ k → Going t before (k + 1) rest page → Going t before (i + 1) rest page
numbered t rest before page i k e g = subst (λ (n : ℕ). Going t before (n + 1) rest page) (sym e) g

-- the next line's
next_line : (t rest behind : List ℕ) (before page : Page) (i k n : ℕ) → i ≡ k → n ≡ k + 1 → rest ≡ behind → Going t before (i + 1 + 1) behind page
    → Going t before (n + 1) rest page
next_line t rest behind before page i k n e f h g =
    let m : i + 1 ≡ n = omega arith in
    subst (λ (x : List ℕ). Going t before (n + 1) x page) (sym h) (subst (λ (j : ℕ). Going t before (j + 1) behind page) m g)

pub returns-in-Err : goal.returns-in-Err
returns-in-Err c =
    let step = c.in-Some.ensures.steps in
    stop_refused _ _ _ _ _ (numbered _ _ _ _ _ _ step.1 c.loop-i.invariant.4) _ _ step.0.0 _ c.in-Err.ensures

pub returns-then-page-size_of : goal.returns-then-page-size_of
returns-then-page-size_of c =
    let step = c.in-Some.ensures.steps in let room = c.loop-i.invariant.2 in
    stop_full _ _ _ _ _ (numbered _ _ _ _ _ _ step.1 c.loop-i.invariant.4) _ _ step.0.0 _ c.in-Ok.ensures c.requires.1
    (omega (arith, c.size_of.ensures.is))

pub length_said-k-requires : goal.length_said-k-requires
length_said-k-requires c =
    let line = c.in-Some.ensures.steps.0.0 in let less = line.less in let short = c.loop-i.invariant.3 in
    omega arith

pub write_item-requires : goal.write_item-requires
write_item-requires c =
    let room = c.loop-i.invariant.2 in
    let same = said_long c.in-Some.line.now c.length_said-k.result c.in-Ok.item in
    omega arith

pub loop-i-preserved : goal.loop-i-preserved
loop-i-preserved c =
    let step = c.in-Some.ensures.steps in let goes = c.in-Some.ensures.goes.on c.loop-i.invariant.1 in
    let line = step.0.0 in let less = line.less in let left = ap length step.0.1 in
    let room = c.loop-i.invariant.2 in let short = c.loop-i.invariant.3 in (
      goes.0,
      goes.1,
      (let same = writes_length _ _ _ _ _ c.write_item.ensures.writes in omega arith),
      omega arith,
      next_line _ _ _ _ _ _ _ _ step.1 step.2 step.0.1
          (goes_on _ _ _ _ _ (numbered _ _ _ _ _ _ step.1 c.loop-i.invariant.4) _ _ line _ c.in-Ok.ensures c.requires.1 (omega (arith, c.size_of.ensures.is))
          _ c.length_said-k.ensures _ c.write_item.ensures),
    )

pub returns : goal.returns
returns c = going_end _ _ _ _ _ c.loop-i.invariant.4 c.in-None.ensures.steps.0
