-- The cases of specs/Damaged.antt and specs/Cases.antt, a list at a time, by computing: what the calls give is what stands
-- beside them. A definition that is changed gives something else, and the list with such a case is refused.
use Rattle.std.proofs.Common.{refl}
use Rattle.book.specs.Total.{total, any, all}
use Rattle.book.specs.Sizes.{fits, is_label, is_order, current_turn, is_owned}
use Rattle.book.specs.Steps.{decode}
use Rattle.book.specs.Verdicts.{admitted, lookable, startable, placeable}
use Rattle.line.specs.Line as L
use Rattle.line.specs.Rules.{of_blocks, in_order}
use Rattle.line.specs.Tests as Q
use Rattle.line.specs.Check as C
use Rattle.line.specs.Calls.{opens, step, orders, answers, after}
use Rattle.line.specs.Survey.{seen_from, mask_of, lowest_from, views, surveys, survey}
use Rattle.line.specs.Damaged.{SoundCases, UnfitCases, Rule1Cases, Rule2Cases, Rule3Cases, PairCases, Rule4Cases, Rule5Cases, Rule6Cases, Rule7Cases, SeveralCases, DamagedCases}
use Rattle.line.specs.Cases.{ListingCases, RunCases, WornCases, WayCases, StepCases, RefusedCases, OrderCases, SurveyCases, OpeningCases, IdleCases, OpeningUnfit, NumberCases, LineCases}
use Rattle.book.specs.Clearing.{settling}
use Rattle.line.specs.Clearing.{emptying, clearing}
use Rattle.line.specs.ClearingCases.{ClearingCases}

-- ---- what is computed with: to unfold one of these is to unfold all that it names

shared : Unit {0}
unfolding total any all fits is_label is_order current_turn is_owned decode admitted lookable startable placeable
shared = tt

desks : Unit {0}
unfolding L.desk_of L.record_of L.entry_of L.label_at L.look_of L.wins L.claim_of L.moved_by L.desk_does L.desk_step
desks = tt

owner : Unit {0}
unfolding L.opened L.may_put L.room_of L.with_label L.put_step L.put_many L.order_step L.moves_on L.reach L.read_at L.get_step L.does
owner = tt

rules : Unit {0}
unfolding Q.no_clash Q.obeys3 C.holds
rules = tt

check : Unit {0}
unfolding shared desks owner rules of_blocks in_order C.fit C.first_broken C.check
check = tt

unfoldable pub calls : Unit {0}
unfolding check opens step orders answers after seen_from mask_of lowest_from views surveys survey
calls = tt

-- ---- the cases

pub damaged_cases : DamagedCases
unfolding check DamagedCases SoundCases UnfitCases Rule1Cases Rule2Cases Rule3Cases PairCases Rule4Cases Rule5Cases Rule6Cases Rule7Cases SeveralCases
damaged_cases = (refl, refl, refl, refl, refl, refl, refl, refl, refl, refl, refl)

pub line_cases : LineCases
unfolding calls LineCases ListingCases RunCases WornCases WayCases StepCases RefusedCases OrderCases SurveyCases OpeningCases IdleCases
line_cases = (refl, refl, refl, refl, refl, refl, refl, refl, refl, refl)

pub opening_unfit : OpeningUnfit
unfolding calls OpeningUnfit
opening_unfit l ne t = refl

pub number_cases : NumberCases
unfolding NumberCases
number_cases = (refl, λ place rule. refl, λ mask count lowest. refl)

pub clearing_cases : ClearingCases
unfolding calls settling emptying clearing ClearingCases
clearing_cases = refl
