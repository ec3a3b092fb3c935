-- `engine::start::clear`: the writes one after the other, and more budget than they need.
use Rattle.std.proofs.Common.{arith}
use Rattle.model.specs.Form as form
use Rattle.model.specs.Layout.{present}
use Rattle.model.proofs.store.Sizes.{sized_start}
use Rattle.engine.proofs.Stores.{spent_length}
use Rattle.engine.proofs.Clearing.{all_cleared}
use Rattle.engine.proofs.start.clear.Goals as goal

pub clear_processes-left-requires : goal.clear_processes-left-requires
clear_processes-left-requires c =
    let s = sized_start present c.args.topology c.args.store.now c.requires in (s.processes, s.cells)

pub zeros-rest-requires : goal.zeros-rest-requires
unfolding form.count_cell form.channel_record form.slot
zeros-rest-requires c i l =
    let s = sized_start present c.args.topology c.args.store.now c.requires in
    omega (arith, c.channel_count_cell-first.ensures, spent_length c.clear_processes-left.ensures)

pub put-requires : goal.put-requires
put-requires c =
    let s = sized_start present c.args.topology c.args.store.now c.requires in
    omega (arith, spent_length c.clear_processes-left.ensures, spent_length c.zeros-rest.ensures)

pub returns : goal.returns
returns c =
    let s = sized_start present c.args.topology c.args.store.now c.requires in
    all_cleared c.args.topology c.channel_count_cell-first.ensures c.clear_processes-left.ensures c.zeros-rest.ensures
    c.put.ensures (omega arith)
