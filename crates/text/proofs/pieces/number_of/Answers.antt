-- An empty word, a byte that is no digit, a number too large, and a turn.
use Rattle.std.proofs.Common.{◌≡◌, ℕ, ◌+◌, ◌-◌, ◌*◌, ◌<◌, get_or, ◌∙◌, sym, subst, arith}
use Rattle.text.proofs.Words.{zero_is}
use Rattle.text.proofs.Numbers.{number_empty, Reading, reading_end, reading_not, reading_large, reading_more}
use Rattle.text.proofs.pieces.number_of.Goals as goal

pub returns-then-is_empty : goal.returns-then-is_empty
returns-then-is_empty c = number_empty _ (zero_is _ c.if-is_empty.ensures)

pub returns-then-not-is_ascii_digit : goal.returns-then-not-is_ascii_digit
returns-then-not-is_ascii_digit c = reading_not _ _ _ c.loop-b.invariant c.loop-b-test.true (sym c.if-not-is_ascii_digit.ensures.value)

pub returns-in_err-checked_mul : goal.returns-in_err-checked_mul
returns-in_err-checked_mul c =
    c.from_residual.ensures
    ∙ reading_large _ _ _ c.loop-b.invariant c.loop-b-test.true (let h : c.loop-b.n * 10 < 4294967296 → ⊥ = c.in_err-checked_mul.ensures in omega arith)

pub returns-in_err-n : goal.returns-in_err-n
returns-in_err-n c =
    let tens = c.in_ok-checked_mul.ensures in let units = c.from.ensures in
    c.from_residual-in_err-n.ensures
    ∙ reading_large _ _ _ c.loop-b.invariant c.loop-b-test.true
    (let h : c.in_ok-checked_mul.field-0 + c.from.result < 4294967296 → ⊥ = c.in_err-n.ensures in let t = tens.1 in omega arith)

pub loop-b-preserved : goal.loop-b-preserved
loop-b-preserved c =
    let tens = c.in_ok-checked_mul.ensures in let units = c.from.ensures in let sum = c.in_ok-n.ensures in
    let b = get_or c.args.word.now c.loop-b.b-index 0 in
    let n : c.loop-b.n * 10 + (b - 48) ≡ c.in_ok-n.n = omega (arith, tens.1, sum.1) in
    subst (λ (x : ℕ). Reading c.args.word.now x (c.loop-b.b-index + 1)) n
    (reading_more _ _ _ c.loop-b.invariant c.loop-b-test.true (sym c.if-not-is_ascii_digit.ensures.value) (omega (arith, sum.0)))

pub returns : goal.returns
returns c = reading_end _ _ _ c.loop-b.invariant c.loop-b-test.false
