-- `answers::answer_all` is safe and ends. The measure is the length of what is left: a turn begins with some, and what it leaves
-- comes after the end of a line, or is nothing.
use Rattle.std.proofs.Common.{length}
use Rattle.answers.proofs.answer_all.Given as goal

abbrev pub decreases-loop-rest : goal.decreases-loop-rest
decreases-loop-rest l = length l.rest
