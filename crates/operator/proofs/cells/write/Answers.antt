use Rattle.model.specs.Layout.{cell}
use Rattle.model.specs.Record.{body_bytes}
use Rattle.report.proofs.Printing.{none_appended, one_appended, all_appended}
use Rattle.operator.specs.File.{cells_bytes}
use Rattle.operator.proofs.Files.{cell_written}
use Rattle.operator.proofs.cells.write.Goals as goal

pub loop-cell-init : goal.loop-cell-init
loop-cell-init c = none_appended

pub loop-cell-preserved : goal.loop-cell-preserved
unfolding cell body_bytes
loop-cell-preserved c = one_appended c.loop-cell.invariant c.loop-cell-test.true
    (cell_written _ c.to_le_bytes.ensures c.bytes-next.ensures)

pub returns : goal.returns
unfolding cells_bytes
returns c = all_appended c.loop-cell.invariant c.loop-cell-test.false
