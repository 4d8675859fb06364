-- After i turns the step stands there i times.
use Rattle.printing.specs.Page.{Wrote}
use Rattle.text.specs.Meaning.{step_bytes, repeat}
use Rattle.text.proofs.writing.write_steps.Given as goal

abbrev pub invariant-loop-i : goal.invariant-loop-i
invariant-loop-i l = Wrote (repeat l._i (step_bytes l.code l.a l.b)) l.initial.page l.page
