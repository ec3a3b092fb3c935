use Rattle.report.proofs.Printing.{none_appended, one_appended, all_within}
use Rattle.operator.proofs.replay.lines.Goals as goal

pub loop-i-init : goal.loop-i-init
loop-i-init c = none_appended

pub loop-i-preserved : goal.loop-i-preserved
loop-i-preserved c = one_appended c.loop-i.invariant c.loop-i-test.true c.line-next.ensures

pub returns : goal.returns
returns c = all_within c.loop-i.invariant c.loop-i-test.false c.requires
