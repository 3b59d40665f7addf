-- `text::put_lines` meets its contract: the line of the engines, those of the entries block by block, and `ff` are the text.
use Rattle.std.proofs.Common.{refl, rules, arith}
use Rattle.paper.proofs.Texts.{render_length}
use Rattle.digits.proofs.Buffers.{puts_more, puts_written}
use Rattle.text.proofs.Writer.{blocks, blocks_length}
use Rattle.text.proofs.put_lines.Goals as goal

pub put_line-at-requires : goal.put_line-at-requires
put_line-at-requires c = omega (arith, render_length c.args.room)

pub put_entries-at-requires : goal.put_entries-at-requires
put_entries-at-requires c =
    let b = blocks_length c.args.room c.from.ensures refl refl (search rules) (search rules) (search rules) in (search rules, omega arith)

pub put_entries-at-requires-2 : goal.put_entries-at-requires-2
put_entries-at-requires-2 c =
    let b = blocks_length c.args.room c.from.ensures c.from-2.ensures refl (search rules) (search rules) (search rules) in (search rules, omega arith)

pub put_entries-at-requires-3 : goal.put_entries-at-requires-3
put_entries-at-requires-3 c =
    let b = blocks_length c.args.room c.from.ensures c.from-2.ensures c.from-3.ensures (search rules) (search rules) (search rules) in (search rules, omega arith)

pub put_ending-requires : goal.put_ending-requires
put_ending-requires c =
    let b = blocks_length c.args.room c.from.ensures c.from-2.ensures c.from-3.ensures (search rules) (search rules) (search rules) in omega arith

pub returns : goal.returns
returns c =
    let a = puts_more (omega arith) c.put_line-at.ensures c.put_entries-at.ensures in
    let b = puts_more (omega arith) a c.put_entries-at-2.ensures in
    let d = puts_more (omega arith) b c.put_entries-at-3.ensures in
    rw (← blocks c.args.room c.from.ensures c.from-2.ensures c.from-3.ensures (search rules) (search rules) (search rules))
    (puts_written (puts_more (omega arith) d c.put_ending.ensures))
