-- `digits::byte_at` meets its contract: the text is too short, a byte is no digit, or both are.
use native.Mathlib.Omega.{arith}
use Rattle.digits.proofs.Digits.{byte_short, byte_first_none, byte_second_none, byte_found}
use Rattle.digits.proofs.byte_at.Goals as goal

pub returns-in_default : goal.returns-in_default
returns-in_default c = let r = c.in_ok-get.ensures.lookup.0 in byte_short _ _ _ r.0 r.2 (omega arith)

pub returns-in_err-value : goal.returns-in_err-value
returns-in_err-value c =
    let r = c.in_ok-get.ensures.lookup.0 in
    rw c.from_residual-in_err-value.ensures (byte_first_none _ _ _ r.0 r.2 c.in_err-value.ensures)

pub returns-in_err-value-2 : goal.returns-in_err-value-2
returns-in_err-value-2 c =
    let r = c.in_ok-get.ensures.lookup.0 in
    rw c.from_residual-in_err-value-2.ensures (byte_second_none _ _ _ r.0 r.2 c.in_err-value-2.ensures)

pub returns : goal.returns
returns c =
    let r = c.in_ok-get.ensures.lookup.0 in
    byte_found _ _ _ r.0 r.2 _ _ (omega arith) c.in_ok-value.ensures c.in_ok-value-2.ensures
