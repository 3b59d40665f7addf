-- `text::next_line` meets its contract: by the kind of the line, and no entry follows where it is none of the three or may not stand there.
use Rattle.std.proofs.Common.{◌∙◌, arith}
use Rattle.digits.proofs.Digits.{byte_at_some, byte_at_none}
use Rattle.text.proofs.Reader.{no_job_line, no_section_line, no_link_line, no_kind, turn_job, turn_section, turn_link}
use Rattle.text.proofs.next_line.Goals as goal

pub returns-in_err-byte_at : goal.returns-in_err-byte_at
returns-in_err-byte_at c =
    let n = byte_at_none _ _ c.in_err-byte_at.ensures in
    rw c.from_residual.ensures (no_kind c.requires (omega arith) (omega arith) (omega arith))

pub returns-in_default-4 : goal.returns-in_default-4
returns-in_default-4 c = let k = byte_at_some c.in_ok-byte_at.ensures in no_kind c.requires (omega arith) (omega arith) (omega arith)

-- a job

pub returns-in_err-at-in-161 : goal.returns-in_err-at-in-161
returns-in_err-at-in-161 c =
    let k = byte_at_some c.in_ok-byte_at.ensures ∙ c.in-161.is in
    rw c.from_residual-in_err-at-in-161.ensures (no_job_line c.requires k (λ _ _. c.in_err-at-in-161.ensures))

pub returns-in_default : goal.returns-in_default
returns-in_default c =
    no_job_line c.requires (byte_at_some c.in_ok-byte_at.ensures ∙ c.in-161.is) (λ p q. absurd (c.if-room-eq0-2.false q))

pub returns-in_default-2 : goal.returns-in_default-2
returns-in_default-2 c =
    no_job_line c.requires (byte_at_some c.in_ok-byte_at.ensures ∙ c.in-161.is) (λ p. absurd (c.if-room-eq0.false p))

pub returns-in_ok-at-in-161 : goal.returns-in_ok-at-in-161
returns-in_ok-at-in-161 c =
    turn_job c.requires (byte_at_some c.in_ok-byte_at.ensures ∙ c.in-161.is) c.if-room-eq0.true c.if-room-eq0-2.true c.in_ok-at-in-161.ensures

-- a section

pub returns-in_err-at-in-162 : goal.returns-in_err-at-in-162
returns-in_err-at-in-162 c =
    let k = byte_at_some c.in_ok-byte_at.ensures ∙ c.in-162.is in
    rw c.from_residual-in_err-at-in-162.ensures (no_section_line c.requires k (λ _. c.in_err-at-in-162.ensures))

pub returns-in_default-3 : goal.returns-in_default-3
returns-in_default-3 c =
    no_section_line c.requires (byte_at_some c.in_ok-byte_at.ensures ∙ c.in-162.is) (λ p. absurd (c.if-room-eq0-3.false p))

pub returns-in_ok-at-in-162 : goal.returns-in_ok-at-in-162
returns-in_ok-at-in-162 c =
    turn_section c.requires (byte_at_some c.in_ok-byte_at.ensures ∙ c.in-162.is) c.if-room-eq0-3.true c.in_ok-at-in-162.ensures

-- a link

pub returns-in_err-at-in-163 : goal.returns-in_err-at-in-163
returns-in_err-at-in-163 c =
    let k = byte_at_some c.in_ok-byte_at.ensures ∙ c.in-163.is in
    rw c.from_residual-in_err-at-in-163.ensures (no_link_line c.requires k c.in_err-at-in-163.ensures)

pub returns-in_ok-at-in-163 : goal.returns-in_ok-at-in-163
returns-in_ok-at-in-163 c =
    turn_link c.requires (byte_at_some c.in_ok-byte_at.ensures ∙ c.in-163.is) c.in_ok-at-in-163.ensures
