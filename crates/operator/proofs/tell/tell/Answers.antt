use Rattle.std.proofs.Common.{arith}
use Rattle.report.proofs.Appending.{at_most}
use Rattle.operator.specs.ConsoleText.{answer_text}
use Rattle.operator.proofs.tell.tell.Goals as goal

pub returns-in-Plan : goal.returns-in-Plan
unfolding answer_text
returns-in-Plan c = rw c.in-Plan.is c.plan_refused.ensures

pub returns-in-Other : goal.returns-in-Other
unfolding answer_text
returns-in-Other c = rw c.in-Other.is (at_most c.refused_line.ensures (omega arith))
