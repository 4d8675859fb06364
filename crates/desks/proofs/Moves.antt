-- A desk's step on a sound line: the numbers that it computes with are in range, and it comes to one desk and one
-- record.
use Rattle.std.proofs.Common.{◌≡◌, ℕ, ◌%◌, ◌<◌, ◌≤◌, Bool, not, leb, List, get_or, set, sym, refl, ap, ◌∙◌, subst, mod-lt, arith, leb→le}
use Rattle.std.proofs.Math.Dec.{nleb→lt}
use Rattle.std.proofs.Math.Seq.{set-get_or}
use borrow.Author.Tests.{le-leb, lt-leb}
use Rattle.words.specs.declared.Answer.{Answer}
use Rattle.words.specs.declared.Answer.TheVariants.{Refused}
use Rattle.words.specs.declared.Refusal.{Refusal}
use Rattle.words.specs.declared.Refusal.TheVariants.{Nodesk, Noblock, Nothing}
use Rattle.book.specs.Choice.{◌≡ᵇ◌}
use Rattle.book.specs.Sizes.{Size, sized, block_of, current_turn, is_owned}
use Rattle.book.specs.declared.DeskStep.{DeskStep}
use Rattle.book.specs.declared.DeskStep.TheVariants.{Look as look, Claim as claim, Fetch as fetch, Finish as finish}
use Rattle.book.specs.Steps.{Hold, Desk, idle, holding, claimed_at, hold_of}
use Rattle.book.specs.Verdicts.{takes, refuses, column, at_stage, no_block, admitted, lookable}
use Rattle.book.proofs.Choice.{cases, T→true}
use Rattle.book.proofs.Turns.{current_block}
use Rattle.line.specs.declared.Block.{Block}
use Rattle.line.specs.declared.Desk.{Desk as LentDesk}
use Rattle.line.specs.declared.Head.{Head}
use Rattle.line.specs.declared.Moved.{Moved}
use Rattle.line.specs.Line.{Line, Spot, nowhere, spot_of, numbers_of, desk_of, desk_at, with_numbers, unused, size_of, record_of, entry_of, label_at}
use Rattle.line.specs.Line.{look_of, wins, claim_of, fetch_of, finish_of, moved_by, with_moved, desk_does, desk_step}
use Rattle.line.specs.Rules.{DeskRule}
use Rattle.line.proofs.Current.{current→window}
use Rattle.line.proofs.Cells.{cell}
use Rattle.line.proofs.DeskMoves.{look_step, does_look}
use Rattle.line.proofs.Verdicts.{refuses_not, admitted_takes}
use Rattle.byvalue.specs.Lent.{line_of}
use Rattle.byvalue.specs.GivenBack.{Given, given, back_of}
use Rattle.byvalue.specs.Ready.{Ready}
use Rattle.byvalue.specs.Entries.{Stands}
use Rattle.byvalue.proofs.Lent.{lent_at}
use Rattle.byvalue.proofs.GivenBack.{put_set, refused}
use Rattle.byvalue.proofs.Ready.{sizes, blocks, record_at_lem, stands}
use Rattle.desks.specs.Reading.{block_read}
use Rattle.desks.proofs.Stages.{stage_of, carries, fetch_claimed}

-- ---- a step that may be made

-- of the numbers of a line a block's test reads NB
pub same_block : (z : Size) (s : DeskStep) → no_block z s ≡ no_block (sized z.nb 0 0) s
same_block z (look i) = refl
same_block z claim = refl
same_block z fetch = refl
same_block z finish = refl

-- of a desk that there is, whichever it is
same_admitted : (z : Size) (d : ℕ) (s : DeskStep) (y : Desk Spot) → d < z.t → admitted z d s y ≡ admitted (sized z.nb 0 1) 0 s y
unfolding admitted
same_admitted z d s y b = rw (lt-leb z.t d b, same_block z s, same_block (sized z.nb 0 1) s) refl

read_in : (nb turn : ℕ) (s : DeskStep) (y : Desk Spot) → 1 ≤ nb → admitted (sized nb 0 1) 0 s y ≡ takes → block_read nb turn s < nb
unfolding admitted
read_in nb turn (look i) y pos e = cases (leb nb i) (λ t. absurd (refuses_not Noblock (rw (T→true (leb nb i) t) at e))) (λ t. nleb→lt nb i t)
read_in nb turn claim y pos e = mod-lt turn pos
read_in nb turn fetch y pos e = mod-lt turn pos
read_in nb turn finish y pos e = mod-lt turn pos

-- does a label wait there
abbrev waits : Block → Bool
waits c = not (c.claimed ≡ᵇ c.written)

-- a block above P is unused
not_used : (z : Size) (p k i : ℕ) (w : Bool) → p < i → lookable z p k i w ≡ refuses Nothing
unfolding lookable is_owned
not_used z p k i w u = simp (lt-leb i p u)

module _ (h : Head) (t : List Block) (es : List ℕ) (r : Ready h t es) where
  abbrev z : Size
  z = size_of h

  abbrev l : Line
  l = line_of h t h.nb es

  -- ---- the record of block i

  -- claimed and finished are at most NE
  pub record_few : (i : ℕ) → i < h.nb → ((get_or t i unused).claimed ≤ 64) × ((get_or t i unused).finished ≤ 64)
  record_few i b =
      let v = sizes h t es r in
      let s = r.sound in
      rw (← lent_at h.nb v.nb_most t i unused b)
      (cases (leb i h.p)
      (λ u. let used = leb→le i h.p u in omega (arith, (s.five i b).fits used, (s.six i b).fits used, (s.seven i b).holders used))
      (λ u. rw ((s.four i b).zeros (nleb→lt i h.p u)) (omega arith)))

  -- where the block is used it is that of the current turn
  here : (i : ℕ) → i < h.nb → i ≤ h.p → record_of z l.table (current_turn z h.p i) ≡ get_or t i unused
  here i b u =
      let turn = current_turn z h.p i in
      sym (record_at_lem h t es r turn (block_of z turn) refl) ∙ ap (λ (j : ℕ). get_or t j unused) (current_block z h.p i b u)

  -- ---- desk d
  module _ (d : ℕ) where
    abbrev x : LentDesk
    x = get_or h.desks d (numbers_of idle)

    pub desk_in_lem : d < h.t → d < 16
    desk_in_lem b = let v = sizes h t es r in omega arith

    pub stage_in : x.stage < 4
    stage_in = let v = r.sound.three.stages d in omega arith

    -- a claimed desk's place is below written, and so among the entries
    fetch_stands : at_stage x.stage 2 ≡ takes → Stands h.ne (x.turn % h.nb) x.place es
    fetch_stands e =
        let pos = (blocks h t es r).0 in
        let q : DeskRule l (holding (claimed_at (spot_of x))) = subst (DeskRule l) (fetch_claimed x stage_in e) (r.sound.three.desks d) in
        let k = cell l pos r.sound x.turn (current→window z h.p x.turn pos q.0) in
        stands h t es r x.turn (x.turn % h.nb) refl x.place (omega (arith, q.1, k.claims, k.fits))

    -- what a step gives that leaves this desk and this record of block i
    abbrev kept : ℕ → Moved → Given Answer
    kept i m = given m.answer (with_numbers h d m.desk) (set t i m.block) es

    -- the block is that of the turn that the line reads
    kept_at : (turn i : ℕ) (m : Moved) → i ≡ turn % h.nb → kept i m ≡ back_of t h.nb (with_moved z l d turn m)
    kept_at turn i m e = rw (e, put_set h.nb (blocks h t es r).1 t (turn % h.nb) m.block (mod-lt turn (blocks h t es r).0))

    -- what the desk holds, or saw
    abbrev hold : Hold Spot
    hold = hold_of nowhere (desk_of x)

    -- ---- look; at an unused block it is refused, and leaves desk and record as they were

    look_unused : (i : ℕ) → h.p < i → kept i (look_of z h.p h.k i (get_or t i unused) x) ≡ back_of t h.nb (desk_does z l d hold (look i))
    unfolding look_of look_step
    look_unused i u =
        let none = not_used z h.p h.k i in
        let c = record_of z l.table (current_turn z h.p i) in
        rw (does_look z l d hold i, none (waits (get_or t i unused)) u, none (waits c) u, set-get_or t i unused, set-get_or h.desks d (numbers_of idle))
        (refused h t h.nb es Nothing)

    look_kept : (i : ℕ) → i < h.nb → kept i (look_of z h.p h.k i (get_or t i unused) x) ≡ back_of t h.nb (desk_does z l d hold (look i))
    unfolding desk_does moved_by
    look_kept i b =
        let turn = current_turn z h.p i in
        cases (leb i h.p)
        (λ u. let used = leb→le i h.p u in
        rw (here i b used) (kept_at turn i (look_of z h.p h.k i (get_or t i unused) x) (sym (current_block z h.p i b used))))
        (λ u. look_unused i (nleb→lt i h.p u))

    -- ---- step s

    abbrev may : DeskStep → Type 0
    may s = admitted (sized h.nb 0 1) 0 s (desk_of x) ≡ takes

    at_stage_lem : (s : DeskStep) → may s → at_stage x.stage (column s) ≡ takes
    at_stage_lem s e = rw (stage_of x stage_in) at (admitted_takes (sized h.nb 0 1) 0 s (desk_of x) e).1

    abbrev read : DeskStep → ℕ
    read s = block_read h.nb x.turn s

    abbrev moved_at : DeskStep → ℕ → Moved
    moved_at s i = moved_by (sized h.nb h.ne 0) s h.p h.k es (get_or t i unused) x (claimed_at (spot_of x))

    abbrev i : ℕ
    i = x.turn % h.nb

    abbrev c : Block
    c = get_or t i unused

    -- the record that the line reads
    own : record_of z l.table x.turn ≡ c
    own = sym (record_at_lem h t es r x.turn i refl)

    taken_kept : (s : DeskStep) → may s → kept (read s) (moved_at s (read s)) ≡ back_of t h.nb (desk_does z l d hold s)
    unfolding moved_by desk_does look_of claim_of wins lookable is_owned current_turn label_at entry_of
    taken_kept (look i) e = look_kept i (read_in h.nb x.turn (look i) (desk_of x) (blocks h t es r).0 e)
    taken_kept claim e = rw (carries x stage_in 0 (at_stage_lem claim e), own) (kept_at x.turn i (claim_of z h.p h.k c (spot_of x)) refl)
    taken_kept fetch e = rw (carries x stage_in 1 (at_stage_lem fetch e), own) (kept_at x.turn i (fetch_of c (claimed_at (spot_of x)) (label_at z es (spot_of x))) refl)
    taken_kept finish e = rw (carries x stage_in 2 (at_stage_lem finish e), own) (kept_at x.turn i (finish_of c) refl)

    module _ (s : DeskStep) where
      abbrev after : Given Answer
      after = back_of t h.nb (desk_step z l d s (desk_at h d))

      refused_by : (w : Refusal) → admitted z d s (desk_of x) ≡ refuses w → given (Refused w 0) h t es ≡ after
      unfolding desk_step
      refused_by w e = rw e (refused h t h.nb es w)

      pub no_desk : h.t ≤ d → given (Refused Nodesk 0) h t es ≡ after
      unfolding admitted
      no_desk b = refused_by Nodesk (rw (le-leb h.t d b) refl)

      module _ (b : d < h.t) where
        pub not_admitted : (w : Refusal) → admitted (sized h.nb 0 1) 0 s (desk_of x) ≡ refuses w → given (Refused w 0) h t es ≡ after
        not_admitted w e = refused_by w (same_admitted z d s (desk_of x) b ∙ e)

        -- it may be made, and i is the block that it reads
        module _ (e : may s) (i : ℕ) (q : i ≡ read s) where
          pub block_in : i < h.nb
          block_in = rw q (read_in h.nb x.turn s (desk_of x) (blocks h t es r).0 e)

          pub few_in : i < 64
          few_in = let k = block_in in let v = sizes h t es r in omega arith

          pub look_in : (at : ℕ) → s ≡ look at → at < h.nb
          look_in at f = let j : i ≡ at = rw f at q in omega (arith, block_in)

          pub fetch_in : s ≡ fetch → (i ≡ x.turn % h.nb) × Stands h.ne i x.place es
          fetch_in f = let k = at_stage_lem s e in let j = rw f at q in (j, rw j (fetch_stands (rw f at k)))

          pub moves : (m : Moved) → m ≡ moved_at s i → kept i m ≡ after
          unfolding desk_step
          moves m k = rw (k, q, same_admitted z d s (desk_of x) b ∙ e) (taken_kept s e)
