-- `planner::answer_plan` meets its contract: each answer is that of the pruned table, by the laws of Calls.
use mathlib.Core.Path.{sym, subst}
use lib.Dec.{T}
use Rattle.planner.proofs.Calls.{none_answer, short_answer, good_answer}
use Rattle.planner.proofs.answer_plan.Goals as goal

pub returns-then-not-lives : goal.returns-then-not-lives
returns-then-not-lives c = rw c.found-count.ensures (none_answer c.requires _ (subst T (sym c.if-not-lives.ensures)))

pub returns-then-plan-turn : goal.returns-then-plan-turn
returns-then-plan-turn c = short_answer c.requires (subst T c.if-not-lives.ensures tt) c.find_turn-turn.ensures _ c.if-plan-turn.true

pub returns : goal.returns
returns c = rw c.found-count.ensures (good_answer c.requires (subst T c.if-not-lives.ensures tt) c.find_turn-turn.ensures _ _ c.if-plan-turn.false c.lay_out.ensures)
