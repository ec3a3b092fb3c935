-- `engine::store::zeros`, cell by cell.
use Rattle.std.proofs.Common.{arith}
use Rattle.model.specs.Notation.{tabulate}
use Rattle.model.proofs.laws.Lists.{tabulate_more}
use Rattle.engine.proofs.Stores.{none_spent, spent_then, spent_length}
use Rattle.engine.proofs.store.zeros.Goals as goal

pub loop-i-init : goal.loop-i-init
unfolding tabulate
loop-i-init c = none_spent _ _

pub put-left-requires : goal.put-left-requires
put-left-requires c = omega (arith, c.requires c.loop-i.i, spent_length c.loop-i.invariant)

pub loop-i-preserved : goal.loop-i-preserved
loop-i-preserved c = rw tabulate_more (spent_then c.loop-i.invariant c.put-left.ensures)
