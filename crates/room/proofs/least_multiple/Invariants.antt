-- `room::least_multiple` meets its contract. The invariant: no fewer times h is divided by t. Where none below t is, t times h is, and no
-- product passes 255 * 65,535.
use Prim.Native.Nat.{ℕ, ◌*◌, ◌<◌, ◌%◌}
use mathlib.Core.Logic.{◌≢◌}
use Rattle.room.proofs.least_multiple.Given as goal

abbrev pub invariant-loop-times : goal.invariant-loop-times
invariant-loop-times l = (s : ℕ) → 0 < s → s < l.times → s * l.fn.h % l.fn.t ≢ 0
