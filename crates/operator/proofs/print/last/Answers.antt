use Rattle.operator.proofs.Printed.{written_few, line_printed}
use Rattle.operator.proofs.print.last.Goals as goal

pub shared_ref_as_front-bytes : goal.shared_ref_as_front-bytes
shared_ref_as_front-bytes c = written_few _ c.write-written.ensures.value

-- the bytes that were written are the call's
pub returns : goal.returns
returns c = line_printed _ c.write-written.ensures.value _ _ _ c.last_line.ensures
