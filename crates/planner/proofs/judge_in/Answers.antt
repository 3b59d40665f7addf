-- `planner::judge_in` meets its contract: the pruned table decides the room, and has the verdict.
use mathlib.Core.Path.{◌∙◌}
use Rattle.planner.proofs.Calls.{given_decided}
use Rattle.planner.proofs.judge_in.Goals as goal

pub returns : goal.returns
returns c =
    let e = c.in_ok-settle.ensures in
    λ table₀ l. c.answer_past.ensures table₀ (given_decided e.0 table₀ l.few (e.1 ∙ l.places))
