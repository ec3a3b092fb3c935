use Rattle.std.proofs.Common.{◌+◌, ◌≤◌, length, mul-le-mul_left, arith}
use Rattle.model.specs.Form.{cell}
use Rattle.model.proofs.store.RunningIndex.{index_inside}
use Rattle.model.proofs.store.LogReplay.{replay_starts, replay_goes_on, replay_ends}
use Rattle.reading.specs.Source.{form_of}
use Rattle.reading.proofs.log.replayed.Goals.{In-loop}
use Rattle.reading.proofs.log.replayed.Goals as goal

pub loop-init : goal.loop-init
unfolding cell
loop-init c = replay_starts (omega arith)

-- the entry of this turn is in the store
inside : (c : In-loop) → c.loop.entry + (form_of c.args.form).message_cells ≤ length c.args.store.now
unfolding cell
inside c =
    let cells = (form_of c.args.form).message_cells in
    index_inside c.loop.invariant.index c.loop-test.true _
    (omega (arith, c.requires.inside, mul-le-mul_left cells c.requires.count))

pub entered-word-requires : goal.entered-word-requires
entered-word-requires c = inside (goal.at.entered-word-requires c).In-loop

pub overflow_add-entry-in-loop : goal.overflow_add-entry-in-loop
overflow_add-entry-in-loop c =
    omega (arith, inside (goal.at.overflow_add-entry-in-loop c).In-loop, c.message_cells-cells.ensures.is)

pub loop-preserved : goal.loop-preserved
loop-preserved c =
    rw (c.message_cells-cells.ensures.is, c.entered-word.ensures) (replay_goes_on c.loop.invariant c.loop-test.true)

pub returns : goal.returns
unfolding cell
returns c = replay_ends c.loop.invariant c.loop-test.false
