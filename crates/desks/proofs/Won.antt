-- When a claim is won, by comparisons: a turn is its block's current one if it is among the last NB turns up to P,
-- and the block of a current turn is owned if the turn is at most K.
use Rattle.std.proofs.Common.{◌≡◌, ℕ, ◌≤◌, Bool, true, false, not, ◌&&◌, eqb, ltb, leb, sym, refl, ◌∙◌, arith, leb→le}
use Rattle.std.proofs.Math.Dec.{nleb→lt}
use Rattle.std.proofs.Math.Nat.{mod-le}
use borrow.Author.Tests.{le-leb, le-ltb, lt-ltb, eqb-true}
use Rattle.book.specs.Sizes.{Size, sized, block_of, current_turn, is_owned}
use Rattle.book.proofs.Choice.{cases, T→true, not→false}
use Rattle.line.specs.declared.Block.{Block}
use Rattle.line.specs.Line.{Spot, wins}
use Rattle.line.specs.Tests.{is_recent}
use Rattle.ring.proofs.Backward.{current_recent, recent→le}

module _ (nb p k : ℕ) (c : Block) (s : Spot) (pos : 1 ≤ nb) where
  abbrev z : Size
  z = sized nb 0 0

  abbrev u : ℕ
  u = s.turn

  abbrev i : ℕ
  i = block_of z u

  pub not_current : is_recent nb p u ≡ false → false ≡ wins z p k c s
  unfolding wins
  not_current e = rw (current_recent z p u pos ∙ e)

  module _ (e : is_recent nb p u ≡ true) where
    current : eqb (current_turn z p i) u ≡ true
    current = current_recent z p u pos ∙ e

    won_by : wins z p k c s ≡ (not (leb u k) && eqb c.claimed s.place)
    unfolding wins is_owned
    won_by =
        let h = recent→le nb p u true (sym e) refl in
        rw (current, eqb-true (current_turn z p i) u current, le-leb i p (omega (arith, mod-le u nb))) refl

  above : not (leb u k) ≡ ltb k u
  above =
      cases (leb u k) (λ t. rw (T→true (leb u k) t, le-ltb k u (leb→le u k t)) refl)
      (λ t. rw (not→false (leb u k) t, lt-ltb k u (nleb→lt u k t)) refl)

  pub won : (b : Bool) → b ≡ is_recent nb p u → ((b && ltb k u) && eqb c.claimed s.place) ≡ wins z p k c s
  won false e = not_current (sym e)
  won true e = rw (won_by (sym e), above) refl
