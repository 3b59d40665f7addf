-- `answer::put_answer` meets its contract: the lines are put where they fit, and otherwise nothing is.
use Rattle.std.proofs.Common.{refl, arith}
use Rattle.answer.proofs.Lines.{printed_length, printed_put}
use Rattle.answer.proofs.put_answer.Goals as goal
use Rattle.answer.proofs.put_answer.Goals.{then-lines-lt32-via-then-lines-lt32, then-lines-lt32-via-else-lines-lt32+then-lines-slots}

pub returns-then-lines-lt32 : goal.returns-then-lines-lt32
returns-then-lines-lt32 c =
    let l = printed_length c.plan_of-numbers.result _ c.slots_of-slots.ensures in
    record {
      numbers = c.plan_of-numbers.result;
      says = c.plan_of-numbers.ensures;
      prints = (elim c.then-lines-lt32.branch [ then-lines-lt32-via-then-lines-lt32 w ↦ omega arith | then-lines-lt32-via-else-lines-lt32+then-lines-slots w ↦ omega arith ], refl);
    }

pub returns : goal.returns
returns c =
    let p = printed_put _ _ c.slots_of-slots.ensures c.put_parts.ensures in
    let l = printed_length c.plan_of-numbers.result _ c.slots_of-slots.ensures in
    record { numbers = c.plan_of-numbers.result; says = c.plan_of-numbers.ensures; prints = (omega arith, p.0, p.1) }
