-- What playing a schedule promises.
use Rattle.std.specs.Prelude.{◌≡◌, List, ◌++◌, ℕ, length, drop}
use Rattle.player.specs.Printed.{text}

-- the text stands at the front, what stood behind it is as it was, and the answer is the text's length
pub record Plays (bs before : List ℕ) (r : ℕ) (after : List ℕ) : Type 0 where
  pub count : r ≡ length (text bs)
  pub front : after ≡ text bs ++ drop (length (text bs)) before
