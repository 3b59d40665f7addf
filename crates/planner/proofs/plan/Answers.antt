-- `planner::plan` meets its contract: the table is empty at first, and the lent words are cleared at last.
use Rattle.planner.proofs.Calls.{emptied_cleared}
use Rattle.planner.proofs.plan.Goals as goal

pub plan_in-planned-requires : goal.plan_in-planned-requires
plan_in-planned-requires c = emptied_cleared c.new.ensures
