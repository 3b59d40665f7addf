use Rattle.paper.proofs.Reader.{bad_first}
use Rattle.text.proofs.read.Goals as goal

pub returns-in_default : goal.returns-in_default
returns-in_default c = bad_first c.in_default.ensures
