use Rattle.std.proofs.Common.{arith, ◌∙◌, sym}
use Rattle.report.proofs.Appending.{nothing, at_most}
use Rattle.report.proofs.Changes.{same_cell, other_cell}
use Rattle.report.proofs.cells.differing.Goals as goal

pub returns-then-value-start_cell : goal.returns-then-value-start_cell
returns-then-value-start_cell c =
    rw (same_cell c.args.store.now c.args.i (c.if-value-start_cell.true ∙ c.start_cell.ensures))
    (at_most (nothing _ _) (omega arith))

pub returns : goal.returns
returns c =
    rw (other_cell c.args.store.now c.args.i (λ e. c.if-value-start_cell.false (e ∙ sym c.start_cell.ensures)))
    c.cell_line.ensures
