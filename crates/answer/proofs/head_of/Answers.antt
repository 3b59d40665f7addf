-- `answer::head_of` meets its contract: the parts, put side by side, are the frame of the definition.
use Rattle.paper.specs.Answer.{two_bytes, four_bytes}
use Rattle.answer.proofs.Lines.{head_is}
use Rattle.answer.proofs.head_of.Goals as goal

pub returns : goal.returns
unfolding four_bytes two_bytes
returns c = rw (c.four.ensures, c.four-2.ensures, c.four-3.ensures) (head_is c.args.numbers c.two_of.result c.two_of.ensures)
