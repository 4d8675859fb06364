-- Sound in, sound out: every step from every sound line leaves a sound line. No history is asked for, and no book: a line that
-- is lent and passes the check is as good as one that was run from opening. The proofs go step by step (SoundPut, SoundGet,
-- SoundDesks); here they are put together, and a line as it is opened is shown to be sound.
use Rattle.std.proofs.Common.{◌≡◌, ℕ, ◌*◌, ◌≤◌, T, replicate, sym, refl, ap, ◌∙◌, zero-le, arith}
use Rattle.std.proofs.Math.ListN.{length-replicate}
use Rattle.std.proofs.Math.Nat.{zero-div}
use Rattle.book.specs.Sizes.{Size, fits, block_of}
use Rattle.book.specs.declared.Deed.{Deed}
use Rattle.book.specs.declared.Deed.TheVariants.{Put as put, Get as get, Order as order, Desk as desk, Unlisted as unlisted}
use Rattle.book.specs.Steps.{idle}
use Rattle.book.proofs.Total.{total_replicate, replicate_at}
use Rattle.line.specs.Line.{Line, LentDesk, numbers_of, desk_of, desk_at, unused, record_of, does, opened}
use Rattle.line.specs.Rules.{held_in}
use Rattle.line.specs.Agrees.{Lawful}
use Rattle.line.proofs.Cells.{Valid, valid, Stands}
use Rattle.line.proofs.ByTurns.{ByTurns, lawful}
use Rattle.line.proofs.Kept.{desk_lent}
use Rattle.line.proofs.SoundPut.{put_lawful, order_lawful}
use Rattle.line.proofs.SoundGet.{get_lawful}
use Rattle.line.proofs.SoundDesks.{desk_lawful}
pub use Rattle.line.proofs.SoundPut.{stored_lawful}

pub does_lawful : (z : Size) (l : Line) (e : Deed) → Lawful z l → Lawful z (does z l e).line
unfolding does
does_lawful z l (put a) w = put_lawful z l a w
does_lawful z l get w = get_lawful z l w
does_lawful z l (order a e) w = order_lawful z l a e w
does_lawful z l (desk d s) w = desk_lawful z l d s w
does_lawful z l unlisted w = w

-- ---- opening

module _ (z : Size) where
  all_idle : (d : ℕ) → desk_at (opened z).head d ≡ idle
  unfolding opened
  all_idle d = ap desk_of (replicate_at 16 d (numbers_of idle)) ∙ desk_lent idle

  all_unused : (t : ℕ) → record_of z (opened z).table t ≡ unused
  unfolding opened record_of
  all_unused t = replicate_at z.nb (block_of z t) unused

  -- turn 0, the only one of the window
  unused_stands : (t : ℕ) → t ≤ 0 → Stands z 0 (replicate 16 (numbers_of idle)) t unused
  unused_stands t h = record {
    round = rw (let e : t ≡ 0 = omega arith in e) (sym (zero-div z.nb));
    fits = zero-le;
    full = λ b. absurd (omega arith);
    some = λ _ n. absurd (n refl);
    claims = zero-le;
    zeroth = λ _. refl;
    holders = omega (arith, total_replicate (λ (x : LentDesk). held_in t (desk_of x)) 16 (numbers_of idle) (ap (held_in t) (desk_lent idle)));
  }

  opened_told : Valid z → ByTurns (opened z)
  unfolding opened
  opened_told v = record {
    valid = v;
    blocks = length-replicate z.nb unused;
    room = length-replicate (z.nb * z.ne) 0;
    many = length-replicate 16 (numbers_of idle);
    one = record { below = zero-le; near = zero-le; rounds = omega arith };
    two = record { from = rw (all_unused 0) zero-le; to = zero-le };
    three = record {
      stages = λ d. rw (replicate_at 16 d (numbers_of idle)) zero-le;
      idles = λ d _. all_idle d;
      desks = λ d. rw (all_idle d) tt;
      apart = λ d e s _ h. absurd (rw (all_idle d) at h);
    };
    turns = λ t w. rw (all_unused t) (unused_stands t w.low);
    blanks = λ u _ _. all_unused u;
  }

pub opened_lawful : (z : Size) → T (fits z) → Lawful z (opened z)
unfolding opened
opened_lawful z f = lawful (opened z) (opened_told z (valid z f))
