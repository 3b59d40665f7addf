-- `export::room_of` meets its contract: counts and entries are read at their places.
use Rattle.export.proofs.Bytes.{jobs_are, sections_are, links_are}
use Rattle.export.proofs.room_of.Goals as goal

pub returns : goal.returns
returns c =
    let j = jobs_are c.args.bytes.now c.entries_of.ensures.long c.entries_of.ensures.bytes in
    let s = sections_are c.args.bytes.now c.entries_of-2.ensures.long c.entries_of-2.ensures.bytes in
    let l = links_are c.args.bytes.now c.entries_of-3.ensures.long c.entries_of-3.ensures.bytes in
    rw (j, s, l)
