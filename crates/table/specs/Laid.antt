-- Records written over others, from a place on; what would lie past the end is left out. `load` and `store` are the two
-- ways of that: the lent records over 64 unused ones, and 64 records over the lent ones.
use Rattle.std.specs.Prelude.{ℕ, suc, List, [], ◌∷◌, set, replicate}
use Rattle.line.specs.declared.Block.{Block}
use Rattle.line.specs.Line.{unused}

-- t, with the records xs in it from place i on
abbrev pub laid : List Block → ℕ → List Block → List Block
laid [] i t = t
laid (x ∷ xs) i t = laid xs (suc i) (set t i x)

-- the table of 64 that holds ys, and behind them records of unused blocks
abbrev pub loaded : List Block → List Block
loaded ys = laid ys 0 (replicate 64 unused)

-- ys, with the records of the table t in their places
abbrev pub stored : List Block → List Block → List Block
stored ys t = laid t 0 ys
