-- `engine::start::clear_processes`, process by process.
use Rattle.std.proofs.Common.{arith}
use Rattle.model.specs.Notation.{concat_below}
use Rattle.model.specs.Form as form
use Rattle.model.proofs.laws.Lists.{concat_more}
use Rattle.engine.specs.Spent.{clear_process}
use Rattle.engine.proofs.Stores.{none_spent, spent_then, spent_length}
use Rattle.engine.proofs.Clearing.{two_zeros}
use Rattle.engine.proofs.start.clear_processes.Goals as goal

pub loop-p-init : goal.loop-p-init
unfolding concat_below
loop-p-init c = none_spent _ _

pub zeros-left-requires : goal.zeros-left-requires
unfolding form.physical_cell form.process_record form.slot
zeros-left-requires c i l = omega (arith, c.physical_cell.ensures, spent_length c.loop-p.invariant)

pub loop-p-preserved : goal.loop-p-preserved
loop-p-preserved c =
    let p = c.loop-p.p in
    rw (concat_more p clear_process, ← two_zeros p c.physical_cell.result c.physical_cell.ensures)
    (spent_then c.loop-p.invariant c.zeros-left.ensures)
