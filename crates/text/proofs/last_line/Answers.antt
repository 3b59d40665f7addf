-- `text::last_line` meets its contract: the line is not `ff`, something follows it, or the text is good.
use Rattle.std.proofs.Common.{arith}
use Rattle.paper.proofs.Lines.{ending_within}
use Rattle.paper.proofs.Reader.{bad_next, bad_after, read_end}
use Rattle.digits.proofs.Digits.{stands_ending, ending_stands}
use Rattle.text.proofs.last_line.Goals as goal

pub returns-then-not-ending_at : goal.returns-then-not-ending_at
returns-then-not-ending_at c =
    rw c.line_after-line.ensures
    (bad_next c.requires.0 (λ f. let e = c.if-not-ending_at.ensures.1 (ending_stands (c.requires.1 f)) in absurd (cc)))

pub returns-then-at-text : goal.returns-then-at-text
returns-then-at-text c =
    rw c.line_after-line.ensures
    (bad_after c.requires.0 (stands_ending (c.ending_at.ensures.0 c.if-not-ending_at.false)) c.if-at-text.true)

pub returns : goal.returns
returns c =
    let e = stands_ending (c.ending_at.ensures.0 c.if-not-ending_at.false) in
    read_end c.requires.0 e (omega (arith, ending_within _ _ e))
