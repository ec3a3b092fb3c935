use Rattle.std.proofs.Common.{refl, arith}
use Rattle.model.specs.Form.{cell}
use Rattle.model.specs.Write.{write_all, cell_writes}
use Rattle.migration.proofs.Copying.{copied_more, copied_all}
use Rattle.migration.proofs.destination.copy.Goals as goal

pub loop-i-init : goal.loop-i-init
unfolding cell_writes write_all
loop-i-init c = record { within = omega arith; bodies = refl }

pub loop-i-preserved : goal.loop-i-preserved
unfolding cell
loop-i-preserved c = copied_more c.loop-i.invariant c.loop-i-test.true

pub returns : goal.returns
unfolding cell
returns c = copied_all c.loop-i.invariant c.loop-i-test.false
