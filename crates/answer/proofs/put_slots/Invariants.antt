-- `answer::put_slots` meets its contract. The loop's invariant: the lines of the first slots are put.
use Rattle.std.proofs.Common.{take}
use Rattle.digits.specs.Digits.{Puts}
use Rattle.answer.specs.Lines.{slot_lines}
use Rattle.answer.proofs.put_slots.Given as goal

abbrev pub invariant-loop-mask : goal.invariant-loop-mask
invariant-loop-mask l = Puts l.initial.lines l.at (slot_lines (take l.mask-index l.slots)) l.next l.lines
