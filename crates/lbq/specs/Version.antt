-- The number of the interface for C and Rust: a change of the calls, of the records that are lent or of the answers is a
-- new number.
use Rattle.std.specs.Prelude.{ℕ}

abbrev pub version : ℕ
version = 1
