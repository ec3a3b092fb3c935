-- `engine::store::put_all`, value by value.
use Rattle.std.proofs.Common.{◌≡◌, length, arith}
use lib.Seq.{take-length}
use Rattle.model.specs.Write.{cell_writes}
use Rattle.model.proofs.store.Entries.{cells_more}
use Rattle.engine.proofs.Stores.{none_spent, spent_then, spent_length}
use Rattle.engine.proofs.store.put_all.Goals as goal

pub loop-i-init : goal.loop-i-init
unfolding cell_writes
loop-i-init c = none_spent _ _

pub put-left-requires : goal.put-left-requires
put-left-requires c = omega (arith, spent_length c.loop-i.invariant)

pub loop-i-preserved : goal.loop-i-preserved
loop-i-preserved c =
    rw (cells_more c.args.at c.args.values.now c.loop-i.i (omega arith))
    (spent_then c.loop-i.invariant c.put-left.ensures)

pub returns : goal.returns
returns c =
    let e : c.loop-i.i ≡ length c.args.values.now = omega arith in
    rw (e, take-length c.args.values.now) at c.loop-i.invariant
