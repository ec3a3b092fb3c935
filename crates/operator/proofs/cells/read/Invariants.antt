-- The loop's invariant: the first i of the bytes' cells stand in their places.
use Rattle.std.proofs.Common.{◌/◌, length}
use Rattle.report.proofs.Filling.{Filled}
use Rattle.operator.specs.Carrying.{cell_in}
use Rattle.operator.proofs.cells.read.Given as goal

abbrev pub invariant-loop-i : goal.invariant-loop-i
invariant-loop-i l = Filled (cell_in l.bytes) (length l.bytes / 4) (length l.fn.cells) l.cells l.i
