use Rattle.std.proofs.Common.{arith}
use Rattle.engine.proofs.Codes.{put_at_lem, get_at, order_at, claim_at, fetch_at, finish_at, look_at, high_at, low_at}
use Rattle.engine.proofs.step.deed_of.Goals as goal

pub returns-in-0 : goal.returns-in-0
returns-in-0 c = put_at_lem _ _ _ c.in-0.is

pub returns-in-1 : goal.returns-in-1
returns-in-1 c = get_at _ _ _ c.in-1.is

pub returns-in-2 : goal.returns-in-2
returns-in-2 c = order_at _ _ _ c.in-2.is

pub returns-in-16-to-31 : goal.returns-in-16-to-31
returns-in-16-to-31 c = claim_at _ _ _ (omega arith) (omega arith)

pub returns-in-32-to-47 : goal.returns-in-32-to-47
returns-in-32-to-47 c = fetch_at _ _ _ (omega arith) (omega arith)

pub returns-in-48-to-63 : goal.returns-in-48-to-63
returns-in-48-to-63 c = finish_at _ _ _ (omega arith) (omega arith)

pub returns-in-64-to-79 : goal.returns-in-64-to-79
returns-in-64-to-79 c = look_at _ _ _ (omega arith) (omega arith)

pub returns-in_default : goal.returns-in_default
returns-in_default c = low_at _ _ _ (λ e. omega arith) (λ e. omega arith) (λ e. omega arith) (omega arith)

pub returns-in_default-2 : goal.returns-in_default-2
returns-in_default-2 c = high_at _ _ _ (omega arith)
