-- `digits::put_line` meets its contract. The loop's invariant: the digits of the first bytes are put.
use Rattle.digits.specs.Digits.{Puts}
use Rattle.digits.proofs.Buffers.{digits_to}
use Rattle.digits.proofs.put_line.Given as goal

abbrev pub invariant-loop-x : goal.invariant-loop-x
invariant-loop-x l = Puts l.initial.buffer l.at (digits_to l.frame l.x-index) l.next l.buffer
