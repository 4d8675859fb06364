-- A word that is read is the word of its arm.
use Rattle.std.proofs.Common.{rules, arith, length, ◌≡◌, ◌∙◌, ℕ, List, sym, ap}
use Rattle.std.proofs.lemmas.Slice.Eq.{text_from_reads, HasBytesAt}
use Rattle.words.specs.Words.{letters}
use Rattle.text.specs.Items.{form_of}
use Rattle.text.proofs.items.form_of.Goals as goal

is_read : (w k : List ℕ) → length w ≡ length k → HasBytesAt w 0 k → form_of k ≡ form_of w
is_read w k e h = ap form_of (sym (text_from_reads w k e h))

pub returns-in-put-clause-is : goal.returns-in-put-clause-is
unfolding form_of
returns-in-put-clause-is c = c.step_form.ensures ∙ is_read c.args.word.now (letters "put") (omega arith) (search rules)

pub returns-in-get-clause-is : goal.returns-in-get-clause-is
unfolding form_of
returns-in-get-clause-is c = c.step_form-in-get.ensures ∙ is_read c.args.word.now (letters "get") (omega arith) (search rules)

pub returns-in-order-clause-is : goal.returns-in-order-clause-is
unfolding form_of
returns-in-order-clause-is c = c.step_form-in-order.ensures ∙ is_read c.args.word.now (letters "order") (omega arith) (search rules)

pub returns-in-claim-clause-is : goal.returns-in-claim-clause-is
unfolding form_of
returns-in-claim-clause-is c = c.step_form-in-claim.ensures ∙ is_read c.args.word.now (letters "claim") (omega arith) (search rules)

pub returns-in-fetch-clause-is : goal.returns-in-fetch-clause-is
unfolding form_of
returns-in-fetch-clause-is c = c.step_form-in-fetch.ensures ∙ is_read c.args.word.now (letters "fetch") (omega arith) (search rules)

pub returns-in-finish-clause-is : goal.returns-in-finish-clause-is
unfolding form_of
returns-in-finish-clause-is c = c.step_form-in-finish.ensures ∙ is_read c.args.word.now (letters "finish") (omega arith) (search rules)

pub returns-in-look-clause-is : goal.returns-in-look-clause-is
unfolding form_of
returns-in-look-clause-is c = c.step_form-in-look.ensures ∙ is_read c.args.word.now (letters "look") (omega arith) (search rules)

pub returns-in-step-clause-is : goal.returns-in-step-clause-is
unfolding form_of
returns-in-step-clause-is c = c.step_form-in-step.ensures ∙ is_read c.args.word.now (letters "step") (omega arith) (search rules)

pub returns-in-size-clause-is : goal.returns-in-size-clause-is
unfolding form_of
returns-in-size-clause-is c = is_read c.args.word.now (letters "size") (omega arith) (search rules)

pub returns-in-bytes-clause-is : goal.returns-in-bytes-clause-is
unfolding form_of
returns-in-bytes-clause-is c = is_read c.args.word.now (letters "bytes") (omega arith) (search rules)

pub returns-in-times-clause-is : goal.returns-in-times-clause-is
unfolding form_of
returns-in-times-clause-is c = is_read c.args.word.now (letters "times") (omega arith) (search rules)
