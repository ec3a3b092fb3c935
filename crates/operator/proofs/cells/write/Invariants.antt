-- The loop's invariant: the bytes of the first cells are written.
use Rattle.std.proofs.Common.{length}
use Rattle.model.specs.Layout.{cell}
use Rattle.model.specs.Record.{body_bytes}
use Rattle.report.proofs.Printing.{Appended}
use Rattle.operator.proofs.cells.write.Given as goal

abbrev pub invariant-loop-cell : goal.invariant-loop-cell
invariant-loop-cell l =
    Appended 4 (length l.cells) (λ i. body_bytes (cell l.cells i)) l.fn.out l.fn.at l.cell-index l.out l.next
