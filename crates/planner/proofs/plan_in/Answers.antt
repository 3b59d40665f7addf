-- `planner::plan_in` meets its contract: the pruned table decides the room, and has the answer.
use mathlib.Core.Path.{◌∙◌}
use Rattle.planner.proofs.Calls.{given_decided}
use Rattle.planner.proofs.plan_in.Goals as goal

pub returns : goal.returns
returns c =
    let e = c.in_ok-settle.ensures in
    λ table₀ l. c.answer_plan.ensures table₀ (given_decided e.0 table₀ l.few (e.1 ∙ l.places))
