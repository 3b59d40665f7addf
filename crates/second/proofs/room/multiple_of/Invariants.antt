-- `second::room::multiple_of` meets its contract. The invariant: the multiple so far is from 1 to 4,096, as 1 is at the start,
-- and each that is found.
use Rattle.std.proofs.Common.{◌≤◌}
use Rattle.second.proofs.room.multiple_of.Given as goal

abbrev pub invariant-loop-place : goal.invariant-loop-place
invariant-loop-place l = (1 ≤ l.h) × (l.h ≤ 4096)
