-- When a place of a block stands among the entries.
use Rattle.std.specs.Prelude.{List, ℕ, ◌+◌, ◌*◌, ◌≤◌, ◌<◌, length}

pub record Stands (ne block place : ℕ) (es : List ℕ) : Type 0 where
  pub entries_few : ne ≤ 64
  pub block_few : block < 64
  pub below : place < ne
  pub within : block * ne + place < length es
