-- The marked cases of one step on a fresh book, at every size that fits: no row waits, K and P are 0, and every desk is idle.
use Rattle.std.proofs.Common.{◌≡◌, ℕ, ◌+◌, ◌*◌, ◌<◌, true, false, T, [], ◌∷◌, refl, ap, arith, lt-ltb, le-leb}
use Rattle.std.proofs.lemmas.Bool.{lt-leb}
use Rattle.std.proofs.Math.Nat.{zero-div}
use Rattle.std.proofs.Math.Seq.{take-nil, drop-nil}
use Rattle.words.specs.declared.Answer.{Answer}
use Rattle.words.specs.declared.Answer.TheVariants.{Refused}
use Rattle.words.specs.declared.Refusal.TheVariants.{Owned, Nothing, Notlabel, Empty}
use Rattle.book.specs.Sizes.{Size, highest_label, fits, is_label, is_order, current_turn, is_owned}
use Rattle.book.specs.Steps.{Step, look, idle, decode}
use Rattle.book.specs.Verdicts.{takes, refuses, admitted, lookable, placeable}
use Rattle.book.specs.Book.{Row, desk_at, gone_before, put_turn, rows_of, written, first, waits, may_put, put_step, put_many, order_step, get_at, get_step, look_step, desk_does, desk_step, does, step, opened, answers, from_opening}
use Rattle.book.specs.Cases.{fresh, Hold, FreshHold}
use Rattle.book.proofs.Choice.{T→true}
use Rattle.book.proofs.Total.{replicate_at}
use Rattle.book.proofs.Turns.{current_low}
use Rattle.book.proofs.Clearing.{limits}

module _ (z : Size) (f : T (fits z)) where
  -- ---- a fresh book

  no_rows : (t : ℕ) → rows_of z [] t ≡ []
  unfolding rows_of
  no_rows t = rw (drop-nil {A = Row} (t * z.ne)) (take-nil z.ne)

  none_waits : (t : ℕ) → waits z [] t ≡ false
  unfolding waits first written gone_before
  none_waits t = rw (no_rows t) refl

  put_turn_lem : put_turn z [] ≡ 0
  unfolding put_turn
  put_turn_lem = zero-div z.ne

  desk_idle : desk_at (opened z) 0 ≡ idle
  unfolding opened
  desk_idle = replicate_at z.t 0 idle

  -- ---- its answers

  placed : (a : ℕ) → is_label a ≡ true → may_put z (opened z) a ≡ takes
  unfolding may_put placeable written opened
  placed a l = rw (l, no_rows (put_turn z []), lt-ltb 0 z.ne (limits z f).ne) refl

  refused : (a : ℕ) → is_label a ≡ false → may_put z (opened z) a ≡ refuses Notlabel
  unfolding may_put placeable
  refused a l = rw l refl

  empty : (get_step z (opened z)).answer ≡ Refused Empty 0
  unfolding get_step get_at opened
  empty = rw (none_waits _) refl

  admits : (i : ℕ) → i < z.nb → admitted z {A = ℕ} 0 (look i) idle ≡ takes
  unfolding admitted
  admits i h = rw (lt-leb z.t 0 (limits z f).desk, lt-leb z.nb i h) refl

  owned : (look_step z (opened z) 0 0).answer ≡ Refused Owned 0
  unfolding look_step lookable is_owned opened
  owned = rw (put_turn_lem, le-leb (current_turn z 0 0) 0 (current_low z 0 0)) refl

  nothing : (look_step z (opened z) 0 1).answer ≡ Refused Nothing 0
  unfolding look_step lookable is_owned opened
  nothing = rw put_turn_lem refl

  looks : (i : ℕ) → i < z.nb → desk_step z (opened z) 0 (look i) (desk_at (opened z) 0) ≡ look_step z (opened z) 0 i
  unfolding desk_step desk_does
  looks i h = rw (desk_idle, admits i h) refl

  -- one step from opening
  fresh_says : (s : Step) (a : Answer) → (step z (opened z) s).answer ≡ a → from_opening z (s ∷ []) ≡ a ∷ []
  unfolding from_opening answers
  fresh_says s a e = rw (T→true (fits z) f) (ap (λ (x : Answer). x ∷ []) e)

  pub fresh_at : Hold (fresh z)
  unfolding fresh step does decode is_label is_order put_step order_step put_many
  fresh_at =
      let n = (limits z f).nb in (
        fresh_says _ _ (rw (placed 1 refl) refl),
        (
          fresh_says _ _ refl,
          (
            fresh_says _ _ (rw (placed highest_label refl) refl),
            (
              fresh_says _ _ (rw (refused (highest_label + 1) refl) refl),
              (
                fresh_says _ _ empty,
                (fresh_says _ _ (rw (looks 0 (omega arith)) owned), (fresh_says _ _ (rw (looks 1 n) nothing), tt)),
              ),
            ),
          ),
        ),
      )

pub fresh_hold : FreshHold
unfolding FreshHold
fresh_hold z f = fresh_at z f
