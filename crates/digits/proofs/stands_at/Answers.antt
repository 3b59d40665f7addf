-- `digits::stands_at` meets its contract: the text ends before the place, or its rest starts with the part.
use Rattle.std.proofs.Common.{rules}
use Rattle.digits.proofs.Digits.{stands_by_rest}
use Rattle.digits.proofs.stands_at.Goals as goal

pub returns : goal.returns
returns c = stands_by_rest _ _ _ _ _ c.get.ensures.lookup (search rules)
