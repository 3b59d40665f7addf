use Rattle.std.proofs.Common.{◌<◌, ◌≤◌, length, arith}
use Rattle.digits.proofs.Buffers.{puts_none, puts_more, digits_length, digits_none, digits_more, digits_line}
use Rattle.digits.proofs.put_line.Goals as goal

pub loop-x-init : goal.loop-x-init
loop-x-init c = rw digits_none (puts_none _ _)

pub put_byte-next-requires : goal.put_byte-next-requires
put_byte-next-requires c = omega (arith, c.loop-x.invariant.place, digits_length c.args.frame.now c.loop-x.x-index)

pub loop-x-preserved : goal.loop-x-preserved
loop-x-preserved c =
    let h : c.loop-x.x-index < length c.args.frame.now = omega arith in
    rw digits_more (puts_more (omega arith) c.loop-x.invariant c.put_byte-next.ensures)

pub put-requires : goal.put-requires
put-requires c = omega (arith, c.loop-x.invariant.place, digits_length c.args.frame.now c.loop-x.x-index)

pub returns : goal.returns
returns c =
    let h : length c.args.frame.now ≤ c.loop-x.x-index = omega arith in
    rw (← digits_line _ _ h) (puts_more (omega arith) c.loop-x.invariant c.put.ensures)
