-- `answer::check_of` meets its contract: the reading's TEXT, or the planner's reply.
use mathlib.Core.Path.{ap, ◌∙◌}
use Rattle.paper.specs.Reply.{reading_numbers}
use Rattle.answer.specs.Calls.{broken, good}
use Rattle.answer.proofs.check_of.Goals as goal

pub returns-in_default : goal.returns-in_default
returns-in_default c = broken c.in_default.field-0 c.in_default.ensures (c.numbers.ensures ∙ ap reading_numbers c.in_default.is) tt

pub returns : goal.returns
returns c = good c.in-Ok.room c.in-Ok.ensures (record { answer = c.check.result; promised = c.check.ensures; told = c.numbers-2.ensures })
