-- `text::first_line` meets its contract: another line stands there, or none, or the line is read.
use Rattle.std.proofs.Common.{◌∙◌, arith}
use Rattle.digits.proofs.Digits.{byte_at_some, byte_at_none}
use Rattle.text.proofs.Reader.{default_room, first_read}
use Rattle.text.proofs.first_line.Goals as goal

pub returns-in_err-byte_at : goal.returns-in_err-byte_at
returns-in_err-byte_at c =
    let n = byte_at_none _ _ c.in_err-byte_at.ensures in
    rw c.from_residual.ensures (λ f. omega (arith, f.0))

pub returns-then-branch-ne-ENGINES : goal.returns-then-branch-ne-ENGINES
returns-then-branch-ne-ENGINES c f = omega (arith, byte_at_some c.in_ok-byte_at.ensures, f.0)

pub returns : goal.returns
returns c =
    rw (default_room c.default.result c.default.ensures) (first_read _ c.in_ok-engines.ensures (byte_at_some c.in_ok-byte_at.ensures ∙ c.if-branch-ne-ENGINES.false))
