-- The laws of proofs/Called.antt, at what the check said and the deed.
use Rattle.std.proofs.Common.{rules}
use Rattle.words.specs.declared.Refusal.TheVariants.{Badstep}
use Rattle.line.specs.Line.{does}
use Rattle.byvalue.specs.Ready.{Ready}
use Rattle.byvalue.proofs.GivenBack.{refused}
use Rattle.engine.proofs.Called.{stops, ready, goes}
use Rattle.engine.proofs.step.perform.Goals as goal
use Rattle.engine.proofs.step.perform.Goals.{In_default}

pub returns-in-Err : goal.returns-in-Err
returns-in-Err c = rw (c.refused.ensures, c.from.ensures) (stops _ _ _ _ _ c.check.ensures _ _ c.in-Err.is)

-- the check lets it pass
passed : (c : In_default) → Ready c.args.h c.args.table c.args.entries.now
passed c = ready _ _ _ _ _ c.check.ensures (search rules) (search rules) c.in_default.is

pub put-requires : goal.put-requires
put-requires c = passed (goal.at.put-requires c).In_default

pub get-requires : goal.get-requires
get-requires c = passed (goal.at.get-requires c).In_default

pub order-requires : goal.order-requires
order-requires c = passed (goal.at.order-requires c).In_default

pub desk_step-requires : goal.desk_step-requires
desk_step-requires c = passed (goal.at.desk_step-requires c).In_default

pub returns-in-Put : goal.returns-in-Put
unfolding does
returns-in-Put c = goes _ _ _ _ _ c.check.ensures (search rules) (search rules) c.in_default.is _ _ _ c.in-Put.is c.put.ensures

pub returns-in-Get : goal.returns-in-Get
unfolding does
returns-in-Get c = goes _ _ _ _ _ c.check.ensures (search rules) (search rules) c.in_default.is _ _ _ c.in-Get.is c.get.ensures

pub returns-in-Order : goal.returns-in-Order
unfolding does
returns-in-Order c = goes _ _ _ _ _ c.check.ensures (search rules) (search rules) c.in_default.is _ _ _ c.in-Order.is c.order.ensures

pub returns-in-Desk : goal.returns-in-Desk
unfolding does
returns-in-Desk c = goes _ _ _ _ _ c.check.ensures (search rules) (search rules) c.in_default.is _ _ _ c.in-Desk.is c.desk_step.ensures

pub returns-in-Unlisted : goal.returns-in-Unlisted
unfolding does
returns-in-Unlisted c =
    rw c.refused-in-Unlisted.ensures
    (goes _ _ _ _ _ c.check.ensures (search rules) (search rules) c.in_default.is _ _ _ c.in-Unlisted.is (refused _ _ _ _ Badstep))
