-- The cases, computed. A group's proof has a place for each of its cases, in their order.
use Rattle.std.proofs.Common.{◌≡◌, List, [], ◌∷◌, ◌++◌, refl, ap, ◌∙◌, ap₂, arith}
use Rattle.words.specs.declared.Refusal.TheVariants.{Worn}
use Rattle.book.specs.Sizes.{sized, fits, is_label, is_order, current_turn, is_owned}
use Rattle.book.specs.Steps.{decode}
use Rattle.book.specs.Total.{any, total}
use Rattle.book.specs.Verdicts.{admitted, lookable, startable, placeable}
use Rattle.book.specs.Book.{Book}
use Rattle.book.specs.Book as B
use Rattle.book.specs.Messages.{put}
use Rattle.book.specs.Counts.{bound}
use Rattle.book.specs.Cases.{Case, no, fresh, marked, nearly_right, let_pass, desk_steps, puts, limits, cases, Hold, CasesHold}
use Rattle.book.specs.Decoding.{Decoding}
use Rattle.book.specs.WornCases.{by_turns, put_and_get, WornRun, WornCases}
use Rattle.book.specs.BoundCases.{bound_cases, BoundCases}
use Rattle.book.specs.Order.{went_by, went_rows, got_rows, got_labels, placed_labels}
use Rattle.book.specs.Clearing.{settling, emptying, clearing}
use Rattle.book.specs.OrderCases.{order_cases, OrderCases}
use Rattle.book.proofs.Clearing.{answers_append}
use Rattle.book.proofs.Worn.{from_opening_lem}

-- what a run computes with: who unfolds this unfolds all of it
runs : Unit {0}
unfolding
    fits is_label is_order current_turn is_owned decode any admitted lookable startable placeable
    B.mark_gone B.gone_before B.put_turn B.rows_of B.written B.first B.waits B.held_in B.is_busy B.may_put B.put_step B.put_many B.order_step
    B.read_turn B.get_at B.get_step B.look_step B.winnable B.claim_step B.fetch_step B.finish_step B.desk_does B.desk_step B.does B.step
    B.opened B.answers B.after B.from_opening
runs = tt

marked_hold : Hold marked
unfolding marked fresh runs total bound
marked_hold = (refl, (refl, (refl, (refl, (refl, (refl, (refl, (refl, (refl, (refl, ((refl, refl), (refl, tt))))))))))))

nearly_right_hold : Hold nearly_right
unfolding nearly_right runs
nearly_right_hold = (refl, (refl, (refl, (refl, tt))))

let_pass_hold : Hold let_pass
unfolding let_pass runs
let_pass_hold = (refl, (refl, (refl, (refl, (refl, tt)))))

desk_steps_hold : Hold desk_steps
unfolding desk_steps runs
desk_steps_hold = (refl, (refl, (refl, (refl, (refl, (refl, (refl, (refl, (refl, (refl, tt))))))))))

puts_hold : Hold puts
unfolding puts runs
puts_hold = (refl, (refl, (refl, (refl, (refl, (refl, (refl, tt)))))))

limits_hold : Hold limits
unfolding limits runs
limits_hold = (refl, (refl, (refl, (refl, (refl, (refl, tt))))))

hold_append : (l m : List Case) → Hold l → Hold m → Hold (l ++ m)
hold_append [] m h g = g
hold_append (c ∷ cs) m h g = (h.0, hold_append cs m h.1 g)

pub cases_hold : CasesHold
unfolding CasesHold cases
cases_hold =
    hold_append marked _ marked_hold (hold_append nearly_right _ nearly_right_hold (hold_append let_pass _ let_pass_hold
    (hold_append desk_steps _ desk_steps_hold (hold_append puts limits puts_hold limits_hold))))

pub decoding : Decoding
unfolding Decoding decode
decoding a b = refl

pub worn_cases : WornCases
unfolding WornCases runs
worn_cases = (refl, refl, refl, refl, refl, refl, refl, refl)

worn_next : B.answers (sized 2 1 1) (by_turns 131072) (put 1 ∷ []) ≡ no Worn ∷ []
unfolding runs
worn_next = refl

pub worn_run : WornRun
unfolding WornRun
worn_run =
    let z = sized 2 1 1 in
    let r = from_opening_lem 131072 (omega arith) in
    (from_opening_lem, answers_append z (B.opened z) (put_and_get 131072) (put 1 ∷ []) ∙ ap₂ ◌++◌ r.0 (ap (λ (b : Book). B.answers z b (put 1 ∷ [])) r.1 ∙ worn_next))

pub bound_cases_lem : BoundCases
unfolding BoundCases bound_cases runs total bound
bound_cases_lem = (refl, refl, (refl, refl, (refl, refl, tt)))

pub order_cases_lem : OrderCases
unfolding OrderCases order_cases runs total went_by went_rows got_rows got_labels placed_labels settling emptying clearing
order_cases_lem = ((refl, refl, (refl, refl, tt)), λ h. absurd (let g = h.1.0 in omega arith), λ h. absurd (let g = h.1.0 in omega arith))
