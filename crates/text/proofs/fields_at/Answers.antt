use Rattle.std.proofs.Common.{arith}
use mathlib.Core.Path.{sym, ◌∙◌}
use lib.ListN.{length-set}
use lib.Seq.{get_or-set_same, get_or-set_other}
use borrow.Author.Count.{below_more}
use Rattle.digits.proofs.Digits.{byte_at_some}
use Rattle.text.proofs.Reader.{no_fields, fields_read}
use Rattle.text.proofs.fields_at.Goals as goal

pub returns-in_err-fields : goal.returns-in_err-fields
returns-in_err-fields g c = rw c.from_residual.ensures (no_fields _ (omega arith) c.in_err-fields.ensures)

pub loop-i-preserved : goal.loop-i-preserved
loop-i-preserved g c =
    let b = byte_at_some c.in_ok-fields.ensures in
    let r = c.loop-i.invariant.read in
    record {
      long = length-set _ _ _ ∙ c.loop-i.invariant.long;
      read =
          below_more _ _
          (λ k h. ((r k h).0 ∙ sym (get_or-set_other c.loop-i.fields _ k _ 0 (omega arith)), (r k h).1))
          (b ∙ sym (get_or-set_same c.loop-i.fields _ _ 0 (omega arith)), omega (arith, b, c.in_ok-fields.ensures.0));
    }

pub returns : goal.returns
returns g c =
    rw c.then_some.ensures (fields_read _ _ _ c.requires.2 (omega arith) c.loop-i.invariant.read c.closed_at.ensures)
