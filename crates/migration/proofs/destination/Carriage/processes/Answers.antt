use Rattle.std.proofs.Common.{◌+◌, ◌<◌, ℕ, length, set, ap₂, length-set, arith}
use Rattle.model.specs.Topology.{is_late}
use Rattle.model.specs.Form.{cell, message_log, physical_cell, count_cell}
use Rattle.model.specs.Write.{write, write_all}
use Rattle.model.specs.Recover.{stored_line}
use Rattle.model.proofs.store.Addresses.{line_in_store, in_store, count_within}
use Rattle.migration.specs.Carry.{processes_writes}
use Rattle.reading.proofs.Whole.{word_given}
use Rattle.migration.proofs.Admitting.{carriable}
use Rattle.migration.proofs.Writing.{none_wrote, one_wrote, all_wrote, wrote_length}
use Rattle.migration.proofs.destination.Carriage.processes.Goals.{After-physical_cell-at}
use Rattle.migration.proofs.destination.Carriage.processes.Goals as goal

pub bounds-source-0 : goal.bounds-source-0
bounds-source-0 c = line_in_store (carriable c.requires).readable.sized

pub loop-p-init : goal.loop-p-init
loop-p-init c = none_wrote

-- the process's two cells are in the target
inside : (c : After-physical_cell-at) → c.physical_cell-at.result + 1 < length c.loop-p.target
unfolding stored_line cell physical_cell count_cell
inside c =
    let a = c.args in
    let sized = (carriable c.requires).sized in
    let line = stored_line a.source.now in
    let count = in_store sized line _ (count_within sized line (message_log c.loop-p.p) c.loop-p-test.true) in
    omega (arith, count, c.physical_cell-at.ensures.is, wrote_length c.loop-p.invariant)

pub bounds-target-at : goal.bounds-target-at
bounds-target-at c = omega (arith, inside (goal.at.bounds-target-at c).After-physical_cell-at)

pub bounds-target-at-in-loop-p : goal.bounds-target-at-in-loop-p
bounds-target-at-in-loop-p c = simp length-set (inside (goal.at.bounds-target-at-in-loop-p c).After-physical_cell-at)

pub loop-p-preserved : goal.loop-p-preserved
unfolding stored_line cell physical_cell count_cell write write_all is_late
loop-p-preserved c =
    let a = c.args in
    let l = c.loop-p in
    one_wrote l.invariant c.loop-p-test.true
    (ap₂ (λ (a v : ℕ). set (set l.target a v) (a + 1) 0) c.physical_cell-at.ensures.is
    (word_given _ a.self.topology _ (carriable c.requires).accepted _ c.loop-p-test.true
    c.is_late-late.ensures c.word.ensures))

pub returns : goal.returns
unfolding processes_writes
returns c = all_wrote c.loop-p.invariant c.loop-p-test.false
