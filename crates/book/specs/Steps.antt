-- The steps: a code and two numbers, and what they ask for; and what a desk is.
use Rattle.std.specs.Prelude.{Bool, true, false, ℕ, ◌-◌, if◌then◌else◌}
use Rattle.book.specs.Choice.{◌≡ᵇ◌}
use Rattle.book.specs.Sizes.{within}
pub use Rattle.book.specs.declared.DeskStep.{DeskStep}
pub use Rattle.book.specs.declared.DeskStep.TheVariants.{Look as look, Claim as claim, Fetch as fetch, Finish as finish}
pub use Rattle.book.specs.declared.Deed.{Deed}
pub use Rattle.book.specs.declared.Deed.TheVariants.{Put as put, Get as get, Order as order, Desk as desk, Unlisted as unlisted}

-- as it arrives
pub record Step : Type 0 where
  pub code : ℕ
  pub a : ℕ
  pub b : ℕ

-- as it is meant: what the owner does, and what a desk does
unfoldable pub decode : Step → Deed
decode s =
    if s.code ≡ᵇ 0 then put s.a
    else if s.code ≡ᵇ 1 then get
    else if s.code ≡ᵇ 2 then order s.a s.b
    else if within 16 31 s.code then desk (s.code - 16) claim
    else if within 32 47 s.code then desk (s.code - 32) fetch
    else if within 48 63 s.code then desk (s.code - 48) finish
    else if within 64 79 s.code then desk (s.code - 64) (look s.a)
    else unlisted

-- What a desk holds from its claim to its finish: where, and whether the label there is fetched.
pub record Hold (A : Type 0) : Type 0 where
  pub at : A
  pub fetched : Bool

-- A desk is idle, has looked, or holds what it claimed; one that holds is claimed or fetched. All but idle carry where: in the
-- book a row, in the line a turn and a place.
pub data Desk (A : Type 0) : Type 0 where
  idle : Desk A
  looked : A → Desk A
  holding : Hold A → Desk A

module _ {A : Type 0} where
  -- what a claim takes hold of, and what a fetch makes of it
  abbrev pub claimed_at : A → Hold A
  claimed_at x = record { at = x; fetched = false }

  abbrev pub with_fetched : Hold A → Hold A
  with_fetched h = record h { fetched = true }

  abbrev pub is_fetched : Hold A → Bool
  is_fetched h = h.fetched

  -- what a desk holds, or would by a claim of what it saw; d where it carries nothing
  abbrev pub hold_of : A → Desk A → Hold A
  hold_of d idle = claimed_at d
  hold_of d (looked x) = claimed_at x
  hold_of d (holding h) = h
