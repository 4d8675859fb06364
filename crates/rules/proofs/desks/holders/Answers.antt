-- At most one counts for each turn.
use Rattle.std.proofs.Common.{ℕ, eqb, if◌then◌else◌, arith, rules, tests}
use Rattle.std.proofs.lemmas.Iterator.{YieldsList-from_map, YieldsList-from_slice}
use Rattle.std.proofs.lemmas.Iterator.Consumers.{YieldsList-at, fits_by_from_yields_list}
use Rattle.std.proofs.lemmas.List.Sums.{count_by-le-length}
use Rattle.rules.proofs.desks.holders.Goals as goal

pub sum-requires-clause-fits : goal.sum-requires-clause-fits
sum-requires-clause-fits c =
    let turns = c.args.turns.now in let one : ℕ → ℕ = λ x. if eqb x c.args.turn then 1 else 0 in
    fits_by_from_yields_list one turns c.map.result _
    (YieldsList-from_map _ one (YieldsList-at c.map.ensures.source (YieldsList-from_slice turns cc)) c.map.ensures.closure (λ x r q k. search (rules, tests)))
    (omega (arith, count_by-le-length (λ x. eqb x c.args.turn) turns))
