-- The loop's invariant: the lines of the first i calls are printed.
use Rattle.std.proofs.Common.{get_or}
use Rattle.model.specs.declared.Record.TheVariants.{Recover}
use Rattle.record.specs.Written.{longest}
use Rattle.report.specs.TextBytes.{sent_bytes}
use Rattle.report.proofs.Printing.{Appended}
use Rattle.operator.proofs.Printed.{line}
use Rattle.operator.proofs.print.part.Given as goal

abbrev pub invariant-loop-i : goal.invariant-loop-i
invariant-loop-i l =
    Appended (sent_bytes longest) l.end (line (λ k. get_or l.list k Recover) l.found.part l.found.rooms) l.fn.out
    l.fn.at l.i l.out l.next
