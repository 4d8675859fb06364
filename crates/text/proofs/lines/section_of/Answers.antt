-- A name ends the section, each other item adds its bytes, and a line that is refused has none.
use Rattle.std.proofs.Common.{List, ℕ, length, sym, ap, ◌∙◌, Ok, arith}
use Rattle.text.specs.Pieces.{lines}
use Rattle.text.specs.Meaning.{section}
use Rattle.text.proofs.Whole.{section_end, section_named, section_more, section_refused}
use Rattle.text.proofs.lines.section_of.Goals as goal

pub returns-in-Named : goal.returns-in-Named
returns-in-Named c =
    let counted = c.loop-line.invariant.3 in
    omega (arith, section_named _ _ _ c.in-Some.ensures.steps.0 (sym (ap Ok c.in-Named.is) ∙ c.in-Ok.ensures))

pub loop-line-preserved-in_default-item : goal.loop-line-preserved-in_default-item
loop-line-preserved-in_default-item c =
    let line = c.in-Some.ensures.steps.0 in let shorter = line.shorter in let less = line.less in
    let left = ap (λ (x : List ℕ). section (lines x)) c.in-Some.ensures.steps.1 in
    let long = ap length c.in-Some.ensures.steps.1 in
    let few = c.loop-line.invariant.2 in let counted = c.loop-line.invariant.3 in
    let size = c.size_of-total.ensures in
    let more = section_more _ _ _ line _ c.in_default-item.not-Named c.in-Ok.ensures in
    (tt, tt, omega (arith, size.most), omega (arith, size.is))

pub loop-line-preserved : goal.loop-line-preserved
loop-line-preserved c =
    let line = c.in-Some.ensures.steps.0 in let less = line.less in
    let left = ap (λ (x : List ℕ). section (lines x)) c.in-Some.ensures.steps.1 in
    let long = ap length c.in-Some.ensures.steps.1 in
    let few = c.loop-line.invariant.2 in let counted = c.loop-line.invariant.3 in
    let same = section_refused _ _ _ line _ c.in_default.ensures in
    (tt, tt, omega arith, omega arith)

pub returns : goal.returns
returns c = let counted = c.loop-line.invariant.3 in omega (arith, section_end _ c.in-None.ensures.steps)
