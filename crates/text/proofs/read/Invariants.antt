-- `text::read` meets its contract. The loop's invariant: the lines before the place are those of the room. Each turn goes further in the text.
use Prim.Native.Nat.{◌-◌}
use lib.ListN.{length}
use Rattle.paper.specs.Reading.{SoFar}
use Rattle.text.proofs.read.Given as goal

abbrev pub invariant-loop-next : goal.invariant-loop-next
invariant-loop-next l = SoFar l.text l.step.at l.step.room

abbrev pub decreases-loop-next : goal.decreases-loop-next
decreases-loop-next l = length l.text - l.step.at
