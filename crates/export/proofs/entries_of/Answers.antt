-- `export::entries_of` meets its contract: each entry has the bytes of its part.
use Rattle.std.proofs.Common.{◌≡◌, ◌<◌, ◌/◌, ◌∙◌, ap, get_or, length, [], rules}
use Rattle.export.proofs.Bytes.{from_fn_same, chunk_at}
use Rattle.export.proofs.entries_of.Goals as goal

pub returns-clause-bytes : goal.returns-clause-bytes
returns-clause-bytes g c d i h =
    let e = from_fn_same (λ i y. g.E.Entry.bytes_of y ≡ get_or c.as_chunks.result.0.now i []) c.from_fn.ensures.items (λ i y f e. search rules) i d h in
    let l : i < length c.args.bytes.now / g.row.N = search rules in
    e ∙ ap (λ parts. get_or parts i []) c.as_chunks.ensures.front ∙ chunk_at g.row.N _ c.args.bytes.now i [] l
