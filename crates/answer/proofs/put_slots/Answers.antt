use Rattle.std.proofs.Common.{take, arith}
use lib.Seq.{length-take-le, take_all}
use Rattle.digits.proofs.Buffers.{puts_none, puts_more}
use Rattle.answer.proofs.Lines.{slots_none, slots_more, slots_length}
use Rattle.answer.proofs.put_slots.Goals as goal

pub loop-mask-init : goal.loop-mask-init
loop-mask-init c = rw slots_none (puts_none _ _)

pub put_line-next-requires : goal.put_line-next-requires
put_line-next-requires c =
    let i = c.loop-mask.mask-index in
    let s = c.args.slots.now in
    omega (arith, c.loop-mask.invariant.place, slots_length (take i s), length-take-le i s (omega arith))

pub loop-mask-preserved : goal.loop-mask-preserved
loop-mask-preserved c =
    rw (slots_more c.args.slots.now c.loop-mask.mask-index (omega arith))
    (puts_more (omega arith) c.loop-mask.invariant (rw (← c.slot_of.ensures) c.put_line-next.ensures))

pub returns : goal.returns
returns c = rw (← take_all c.loop-mask.mask-index c.args.slots.now (omega arith)) c.loop-mask.invariant
