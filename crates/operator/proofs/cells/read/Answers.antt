use Rattle.std.proofs.Common.{refl, arith}
use Rattle.report.proofs.Filling.{none_filled, one_filled, all_filled}
use Rattle.operator.specs.Carrying.{cell_in, cells_in}
use Rattle.operator.proofs.cells.read.Goals as goal

pub loop-i-init : goal.loop-i-init
loop-i-init c = none_filled c.requires refl

pub loop-i-preserved : goal.loop-i-preserved
unfolding cell_in
loop-i-preserved c = one_filled c.loop-i.invariant c.loop-i-test.true (omega (arith, c.from_le_bytes.ensures))

pub returns : goal.returns
unfolding cells_in
returns c = all_filled c.loop-i.invariant c.loop-i-test.false
