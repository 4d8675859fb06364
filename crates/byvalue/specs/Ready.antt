-- What the check has shown, which the functions behind it ask for: a sound line, lent with its NB records.
use Rattle.std.specs.Prelude.{List, ℕ}
use Rattle.line.specs.declared.Block.{Block}
use Rattle.line.specs.declared.Head.{Head}
use Rattle.line.specs.Line.{size_of}
use Rattle.line.specs.Agrees.{Lawful}
use Rattle.byvalue.specs.Lent.{line_of}

abbrev pub Ready : Head → List Block → List ℕ → Type 0
Ready h t es = Lawful (size_of h) (line_of h t h.nb es)
