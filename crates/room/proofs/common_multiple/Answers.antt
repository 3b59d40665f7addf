use native.Mathlib.Omega.{arith}
use Rattle.room.proofs.Checks.{multiple_next}
use Rattle.room.proofs.common_multiple.Goals as goal

pub loop-i-preserved : goal.loop-i-preserved
loop-i-preserved c = (omega arith, multiple_next c.args.room c.loop-i.invariant.1 c.least_multiple-m.ensures (omega arith))
