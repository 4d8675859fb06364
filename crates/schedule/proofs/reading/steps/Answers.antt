use Rattle.std.proofs.Common.{◌∙◌}
use Rattle.schedule.proofs.Chunks.{all_left, cut_left}
use Rattle.schedule.proofs.reading.steps.Goals as goal

pub returns : goal.returns
returns c =
    let bs = c.args.input.now in let e = c.chunks_exact.ensures in
    record { rest = e.rest ∙ all_left bs; size = e.size; cut = e.remainder ∙ cut_left bs _ c.requires (all_left bs) }
