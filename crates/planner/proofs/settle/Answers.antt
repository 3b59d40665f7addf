-- `planner::settle` meets its contract: the pruned table decides the room, or there are more configurations than it holds.
use mathlib.Core.Path.{◌∙◌}
use Rattle.std.proofs.lemmas.Result.{err_from_is_err_and}
use Rattle.planner.proofs.settle.Goals as goal

pub returns-in_err-explore : goal.returns-in_err-explore
returns-in_err-explore c =
    let e = err_from_is_err_and c.from_residual.result c.from_residual.ensures.1 in
    let h = c.in_err-explore.ensures in
    rw e.1 (e.2, h.known.0, h.known.1, h.ended.1)

pub returns : goal.returns
returns c =
    let h = c.in_ok-explore.ensures in
    (record { limits = h.known.0; clock = h.known.1; pruned = c.prune.ensures.0 }, c.prune.ensures.1.capacity ∙ h.ended.0)
