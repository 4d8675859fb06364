-- The cases of specs/Cases.antt, a list at a time, by computing. A definition that is changed gives another text, and
-- the list with such a case is refused.
use Rattle.std.proofs.Common.{refl, ap}
use Rattle.line.proofs.Cases.{calls}
use Rattle.schedule.specs.Bytes as B
use Rattle.player.specs.Spoken as S
use Rattle.printing.specs.Text as T
use Rattle.player.specs.Printed as P
use Rattle.player.specs.Demands.{PlayedOnly}
use Rattle.player.proofs.Demands.{played_only}
use Rattle.player.specs.Cases.{ListingCases, HeaderCases, UnfitCases, CutCases, SizeCases, NumberCases, WordCases, PlayerCases, LimitCases}

-- ---- what is computed with: to unfold one of these is to unfold all that it names

schedule : Unit {0}
unfolding calls B.is_header B.steps_from B.steps_of B.bytes_of_all S.numbered S.cut_short S.run S.played_with S.played
schedule = tt

print : Unit {0}
unfolding schedule T.digits T.decimal T.line_text P.printed
print = tt

-- ---- the cases

pub player_cases : PlayerCases
unfolding print PlayerCases ListingCases HeaderCases UnfitCases CutCases SizeCases NumberCases WordCases
player_cases = (refl, refl, refl, refl, refl, refl, refl)

pub limit_cases : LimitCases
unfolding T.digits T.decimal T.line_text P.printed PlayedOnly LimitCases
limit_cases = (λ bs e. ap P.printed ((played_only bs).0 (rw e tt)), λ bs e h. ap P.printed ((played_only bs).1 (rw e tt) (rw h tt)))
