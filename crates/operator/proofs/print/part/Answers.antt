use Rattle.std.proofs.Common.{get_or}
use Rattle.model.specs.declared.Record.TheVariants.{Recover}
use Rattle.model.specs.Outcome.{refusal_number}
use Rattle.report.proofs.Printing.{none_appended, one_appended, all_appended}
use Rattle.operator.proofs.Printed.{part_printed}
use Rattle.operator.proofs.print.part.Goals as goal

pub loop-i-init : goal.loop-i-init
loop-i-init c = none_appended

pub loop-i-preserved : goal.loop-i-preserved
loop-i-preserved c =
    one_appended c.loop-i.invariant c.loop-i-test.true (rw c.nth_call-call.ensures at c.kept-next.ensures)

pub returns : goal.returns
returns c =
    part_printed (λ k. get_or c.args.list.now k Recover) c.args.found.now.rooms c.requires.0 c.requires.1
    (refusal_number c.args.found.now.refusal) (all_appended c.loop-i.invariant c.loop-i-test.false)
    (rw c.nth_call-call-2.ensures at c.last.ensures)
