-- `answer::answer_input` meets its contract: the first 649 bytes tell the answer to the whole text.
use Rattle.std.proofs.lemmas.List.{take_min}
use Rattle.answer.proofs.Program.{input_answered}
use Rattle.answer.proofs.answer_input.Goals as goal

pub returns-clause-answered : goal.returns-clause-answered
returns-clause-answered c = input_answered _ (rw (← take_min 649 c.args.input.now, ← c.min.ensures) c.answer_text.ensures.answered)
