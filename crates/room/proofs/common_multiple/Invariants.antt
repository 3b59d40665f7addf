-- `room::common_multiple` meets its contract. The invariant: h is at most 4,096, and for good jobs it is the least common multiple of the
-- first i periods. The least multiple of it that the next period divides is then that of one job more.
use Prim.Native.Nat.{◌≤◌}
use Rattle.paper.specs.Room.{EachJobFits, Multiple}
use Rattle.room.proofs.common_multiple.Given as goal

abbrev pub invariant-loop-i : goal.invariant-loop-i
invariant-loop-i l = (l.h ≤ 4096) × (EachJobFits l.room → Multiple l.room l.i l.h)
