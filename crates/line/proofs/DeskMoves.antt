-- What a desk's step leaves of the line. The step writes one desk and one record back (`with_moved`); where it changed neither, the
-- line is as it was. So each of the four steps is told by what it changes.
use Rattle.std.proofs.Common.{◌≡◌, ℕ, Bool, not, get_or, set, if◌then◌else◌, Ok, Err, refl}
use Rattle.std.proofs.Math.Seq.{set-get_or}
use Rattle.words.specs.declared.Answer.TheVariants.{Took, Seen, Claimed, Done, Refused}
use Rattle.words.specs.declared.Refusal.TheVariants.{Lost}
use Rattle.book.specs.Choice.{◌≡ᵇ◌}
use Rattle.book.specs.Sizes.{Size, block_of, current_turn}
use Rattle.book.specs.declared.DeskStep.TheVariants.{Look as look, Claim as claim, Fetch as fetch, Finish as finish}
use Rattle.book.specs.Steps.{Hold, Desk, idle, looked, holding, claimed_at, with_fetched}
use Rattle.book.specs.Verdicts.{Verdict, judge, lookable}
use Rattle.book.proofs.Choice.{cases, T→true, not→false}
use Rattle.line.specs.Line.{Line, Head, Block, Spot, Outcome, numbers_of, says, refuse, with_desk, with_head, unused, one_claimed, one_finished}
use Rattle.line.specs.Line.{record_of, label_at, moved, look_of, wins, claim_of, moved_by, with_moved, desk_does}

module _ (z : Size) (l : Line) where
  abbrev here : ℕ → Block
  here t = record_of z l.table t

  abbrev pub with_record : Head → ℕ → Block → Line
  with_record h t c = record { head = h; table = set l.table (block_of z t) c; entries = l.entries }

  unfoldable pub winnable : Spot → Bool
  winnable s = wins z l.head.p l.head.k (here s.turn) s

  unfoldable pub look_step : ℕ → ℕ → Outcome
  look_step d i =
      let t = current_turn z l.head.p i in
      judge (lookable z l.head.p l.head.k i (not ((here t).claimed ≡ᵇ (here t).written)))
      (says (with_head l (with_desk l.head d (looked (record { turn = t; place = (here t).claimed })))) (Seen (here t).claimed)) (refuse l)

  unfoldable pub claim_step : ℕ → Spot → Outcome
  claim_step d s =
      if winnable s then says (with_record (with_desk l.head d (holding (claimed_at s))) s.turn (one_claimed (here s.turn))) (Claimed s.place)
      else says (with_head l (with_desk l.head d idle)) (Refused Lost 0)

  unfoldable pub fetch_step : ℕ → Hold Spot → Outcome
  fetch_step d h = says (with_head l (with_desk l.head d (holding (with_fetched h)))) (Took (label_at z l.entries h.at))

  unfoldable pub finish_step : ℕ → Hold Spot → Outcome
  finish_step d h = says (with_record (with_desk l.head d idle) h.at.turn (one_finished (here h.at.turn))) Done

  -- a record, and a desk, that is written back as it was
  same_record : (t : ℕ) → set l.table (block_of z t) (here t) ≡ l.table
  unfolding record_of
  same_record t = set-get_or l.table (block_of z t) unused

  same_desk : (d : ℕ) → set l.head.desks d (get_or l.head.desks d (numbers_of idle)) ≡ l.head.desks
  same_desk d = set-get_or l.head.desks d (numbers_of idle)

  module _ (d : ℕ) (h : Hold Spot) where
    look_judged : (t : ℕ) (v : Verdict) (x : Desk Spot)
        → with_moved z l d t (judge v (moved (Seen (here t).claimed) (numbers_of x) (here t)) (λ w. moved (Refused w 0) (get_or l.head.desks d (numbers_of idle)) (here t)))
        ≡ judge v (says (with_head l (with_desk l.head d x)) (Seen (here t).claimed)) (refuse l)
    look_judged t (Ok tt) x = rw (same_record t) refl
    look_judged t (Err w) x = rw (same_record t, same_desk d) refl

    pub does_look : (i : ℕ) → desk_does z l d h (look i) ≡ look_step d i
    unfolding desk_does moved_by look_of look_step
    does_look i =
        let t = current_turn z l.head.p i in
        let c = here t in
        look_judged t (lookable z l.head.p l.head.k i (not (c.claimed ≡ᵇ c.written))) (looked (record { turn = t; place = c.claimed }))

    pub does_claim : desk_does z l d h claim ≡ claim_step d h.at
    unfolding desk_does moved_by claim_of claim_step winnable
    does_claim =
        let w = wins z l.head.p l.head.k (here h.at.turn) h.at in
        cases w (λ t. rw (T→true w t) refl) (λ t. rw (not→false w t, same_record h.at.turn) refl)

    pub does_fetch : desk_does z l d h fetch ≡ fetch_step d h
    unfolding desk_does moved_by fetch_step
    does_fetch = rw (same_record h.at.turn) refl

    pub does_finish : desk_does z l d h finish ≡ finish_step d h
    unfolding desk_does moved_by finish_step
    does_finish = refl
