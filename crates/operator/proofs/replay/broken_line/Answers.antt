use Rattle.std.proofs.Common.{append-nil, arith}
use Rattle.report.specs.Text.{lines_text}
use Rattle.report.proofs.Appending.{nothing, at_most}
use Rattle.operator.proofs.replay.broken_line.Goals as goal

-- none, or a line of the refusal
pub returns-in-Ok : goal.returns-in-Ok
unfolding lines_text
returns-in-Ok c = rw c.in-Ok.is (at_most (nothing _ _) (omega arith))

pub returns-in-Err : goal.returns-in-Err
unfolding lines_text
returns-in-Err c = rw (c.in-Err.is, append-nil) c.outcome_line.ensures
