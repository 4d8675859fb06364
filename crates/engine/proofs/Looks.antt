-- The bit of a block is what an idle desk's look at it would answer. The block's current turn stands in it, so the look
-- reads the block's own record.
use Rattle.std.proofs.lemmas.Bool.{lt-leb}
use Rattle.std.proofs.Common.{◌≡◌, ℕ, ◌<◌, Bool, true, false, not, get_or, is_ok, Ok, Err, refl, ap, ◌∙◌}
use mir.Val.{bool_byte}
use Rattle.book.specs.Choice.{◌≡ᵇ◌}
use Rattle.book.specs.Sizes.{sized, is_owned, current_turn}
use Rattle.book.specs.declared.DeskStep.TheVariants.{Look as look}
use Rattle.book.specs.Steps.{idle, hold_of}
use Rattle.book.specs.Verdicts.{Verdict, takes, judge, admitted, lookable}
use Rattle.book.proofs.Turns.{current_block}
use Rattle.line.specs.declared.Block.{Block}
use Rattle.line.specs.Line.{Line, Outcome, Spot, size_of, nowhere, refuse, unused, record_of, desk_step}
use Rattle.line.specs.Survey.{is_seen, bit}
use Rattle.line.proofs.DeskMoves.{look_step, does_look}
use Rattle.line.proofs.Verdicts.{lookable_same}

-- would an idle desk's look be SEEN, by the verdict on it
abbrev pub seen : Verdict → Bool
seen v = judge v true (λ w. false)

pub seen_bit : (v : Verdict) → bool_byte (is_ok v) ≡ bit (seen v)
seen_bit (Ok u) = refl
seen_bit (Err w) = refl

seen_judge : (v : Verdict) (l : Line) (o : Outcome) → is_seen o.answer ≡ true → is_seen (judge v o (refuse l)).answer ≡ seen v
seen_judge (Ok u) l o e = e
seen_judge (Err w) l o e = refl

-- does a label wait there, and the verdict on a look at block i with that record
abbrev waits : Block → Bool
waits c = not (c.claimed ≡ᵇ c.written)

abbrev pub verdict_at : ℕ → ℕ → ℕ → ℕ → Block → Verdict
verdict_at nb p k i c = lookable (sized nb 0 0) p k i (waits c)

module _ (l : Line) (i : ℕ) (b : i < l.head.nb) where
  -- is an idle desk's look at block i SEEN
  abbrev pub sees : Bool
  sees = is_seen (desk_step (size_of l.head) l 0 (look i) idle).answer

  -- the record that the look reads
  abbrev read : Block
  read = record_of (size_of l.head) l.table (current_turn (size_of l.head) l.head.p i)

  look_admitted : 0 < l.head.t → admitted (size_of l.head) {A = Spot} 0 (look i) idle ≡ takes
  unfolding admitted
  look_admitted h = rw (lt-leb l.head.t 0 h, lt-leb l.head.nb i b) refl

  -- it is the block's own; that of an unused block is not asked for
  look_here : lookable (size_of l.head) l.head.p l.head.k i (waits read) ≡ verdict_at l.head.nb l.head.p l.head.k i (get_or l.table i unused)
  unfolding lookable record_of is_owned current_turn
  look_here =
      lookable_same (size_of l.head) l.head.p l.head.k i (waits read) (waits (get_or l.table i unused))
      (λ u _. rw (current_block (size_of l.head) l.head.p i b u) refl)

  pub seen_is : 0 < l.head.t → sees ≡ seen (verdict_at l.head.nb l.head.p l.head.k i (get_or l.table i unused))
  unfolding desk_step look_step
  seen_is h =
      rw (look_admitted h, does_look (size_of l.head) l 0 (hold_of nowhere idle) i)
      (seen_judge (lookable (size_of l.head) l.head.p l.head.k i (waits read)) l _ refl ∙ ap seen look_here)
