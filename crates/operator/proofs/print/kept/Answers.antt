use Rattle.std.proofs.Common.{sym, ◌∙◌, arith}
use Rattle.report.proofs.Appending.{at_most}
use Rattle.operator.proofs.Printed.{written_few, line_printed}
use Rattle.operator.proofs.print.kept.Goals as goal

pub shared_ref_as_front-bytes : goal.shared_ref_as_front-bytes
shared_ref_as_front-bytes c = written_few _ c.write-written.ensures.value

-- the bytes that were written are the call's, of a send or of another call
pub returns-then-is_send : goal.returns-then-is_send
returns-then-is_send c =
    rw (sym c.is_send.ensures ∙ c.if-is_send.true)
    (line_printed _ c.write-written.ensures.value _ _ _ c.sent_line.ensures)

pub returns : goal.returns
returns c =
    rw (sym c.is_send.ensures ∙ c.if-is_send.false)
    (at_most (line_printed _ c.write-written.ensures.value _ _ _ c.kept_line.ensures) (omega arith))
