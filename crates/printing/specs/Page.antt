-- What a page is asked for, and what is left of it: bytes behind those that stood on it, in the same room.
use Rattle.std.specs.Prelude.{◌≡◌, List, ℕ, ◌+◌, ◌≤◌, length}
use Rattle.std.specs.Borrow.{MutBor}
use Rattle.printing.specs.Writes.{Writes}
pub use Rattle.printing.specs.declared.Page.{Page}

-- there is room for n bytes more
abbrev pub HasRoom : ℕ → Page → Type 0
HasRoom n p = p.len + n ≤ length p.room.now

-- nothing stands on the page, and its room is the one that was lent
pub record Blank (room : MutBor (List ℕ)) (p : Page) : Type 0 where
  pub same : p.room.ghost_name ≡ room.ghost_name
  pub lent : p.room.now ≡ room.now
  pub none : p.len ≡ 0

-- the bytes xs stand behind what stood there, and the room is the same
pub record Wrote (xs : List ℕ) (before after : Page) : Type 0 where
  pub same : after.room.ghost_name ≡ before.room.ghost_name
  pub writes : Writes before.len xs before.room.now after.len after.room.now
