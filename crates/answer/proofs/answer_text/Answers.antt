-- `answer::answer_text` meets its contract: the buffers have the program's sizes, so that the lines fit.
use native.Mathlib.Omega.{arith}
use Rattle.answer.proofs.Program.{program_fits, text_answered}
use Rattle.answer.proofs.answer_text.Goals as goal

pub unwrap-requires : goal.unwrap-requires
unwrap-requires c = program_fits _ (omega arith) c.put_answer.ensures

pub returns-clause-answered : goal.returns-clause-answered
returns-clause-answered c = text_answered (rw c.unwrap.ensures at c.put_answer.ensures)
