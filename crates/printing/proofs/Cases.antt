-- The cases of specs/Cases.antt, by computing.
use Rattle.std.proofs.Common.{refl}
use Rattle.printing.specs.Text.{digits, decimal, line_text}
use Rattle.printing.specs.Cases.{DecimalCases, LineCases}

pub decimal_cases : DecimalCases
unfolding digits decimal DecimalCases
decimal_cases = refl

pub line_cases : LineCases
unfolding digits decimal line_text LineCases
line_cases = (refl, refl)
