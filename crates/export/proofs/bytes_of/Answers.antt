-- `export::bytes_of` meets its contract: each byte is the room's.
use Rattle.std.proofs.Common.{rules}
use Rattle.export.specs.Bytes.{ByteAt}
use Rattle.export.proofs.Bytes.{from_fn_same}
use Rattle.export.proofs.bytes_of.Goals as goal

pub returns : goal.returns
returns c =
    let r = c.from_fn.ensures.items in
    record { long = r.long; byte = λ k h. from_fn_same (ByteAt c.args.room) r (λ i y f e. search rules) k 0 h }
