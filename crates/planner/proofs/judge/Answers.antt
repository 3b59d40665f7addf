-- `planner::judge` meets its contract: the table is empty at first, and the lent words are cleared at last.
use Rattle.planner.proofs.Calls.{emptied_cleared}
use Rattle.planner.proofs.judge.Goals as goal

pub judge_in-judged-requires : goal.judge_in-judged-requires
judge_in-judged-requires c = emptied_cleared c.new.ensures
