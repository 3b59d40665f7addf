use Rattle.std.proofs.Common.{◌∷◌, refl, arith}
use lib.Seq.{take_all}
use Rattle.paper.proofs.Lines.{line_length}
use Rattle.paper.proofs.Digits.{two_digits_length}
use Rattle.digits.proofs.Buffers.{puts_none}
use Rattle.text.proofs.Writer.{entries_none, entry_put, entries_fit}
use Rattle.text.proofs.put_entries.Goals as goal

pub loop-entry-init : goal.loop-entry-init
loop-entry-init g c = rw entries_none (puts_none _ _)

pub put_byte-next-requires : goal.put_byte-next-requires
put_byte-next-requires g c =
    let f = entries_fit c.args.kind g.E.Entry.bytes_of c.args.entries.now c.loop-entry.entry-index (omega arith) c.entry-item.is refl in
    omega (arith, f, c.requires.1, c.loop-entry.invariant.place, line_length (c.args.kind ∷ g.E.Entry.bytes_of c.entry-item.result))

pub put_line-next-requires : goal.put_line-next-requires
put_line-next-requires g c =
    let f = entries_fit c.args.kind g.E.Entry.bytes_of c.args.entries.now c.loop-entry.entry-index (omega arith) c.entry-item.is c.bytes.ensures in
    omega (arith, f, c.requires.1, c.loop-entry.invariant.place, line_length (c.args.kind ∷ c.bytes.result), two_digits_length c.args.kind)

pub loop-entry-preserved : goal.loop-entry-preserved
loop-entry-preserved g c =
    entry_put _ _ c.args.entries.now (omega arith) c.entry-item.is c.bytes.ensures (omega arith) c.loop-entry.invariant c.put_byte-next.ensures
    c.put_line-next.ensures

pub returns : goal.returns
returns g c = rw (← take_all c.loop-entry.entry-index c.args.entries.now (omega arith)) c.loop-entry.invariant
