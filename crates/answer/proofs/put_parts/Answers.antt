-- `answer::put_parts` meets its contract: the first line, the slots and `ff` are put one after another, and each has room.
use Rattle.std.proofs.Common.{length, ap, arith}
use Rattle.paper.specs.Text.{line}
use Rattle.paper.specs.Answer.{answer}
use Rattle.digits.proofs.Buffers.{puts_more}
use Rattle.answer.proofs.Lines.{head_length, slots_length}
use Rattle.answer.proofs.put_parts.Goals as goal

pub put_slots-at-requires : goal.put_slots-at-requires
put_slots-at-requires c = let h = ap (λ f. length (line f)) c.head_of.ensures in omega (arith, head_length c.args.numbers)

pub put_ending-requires : goal.put_ending-requires
put_ending-requires c =
    let h = ap (λ f. length (line f)) c.head_of.ensures in
    omega (arith, head_length c.args.numbers, slots_length c.args.slots.now)

pub returns : goal.returns
unfolding answer
returns c =
    let h = ap (λ f. length (line f)) c.head_of.ensures in
    rw (← c.head_of.ensures)
    (puts_more (omega arith) (puts_more (omega arith) c.put_line-at.ensures c.put_slots-at.ensures) c.put_ending.ensures)
