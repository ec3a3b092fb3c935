-- `engine::begin::clear`: two runs of cells, one after the other.
use Rattle.std.proofs.Common.{arith}
use Rattle.model.specs.Layout.{present, message_log, channel_log}
use Rattle.model.specs.Write.{clear_writes}
use Rattle.model.proofs.store.Sizes.{Sized}
use Rattle.model.proofs.store.Addresses.{in_store, count_within, message_cell, channel_cell}
use Rattle.engine.specs.Spots as spots
use Rattle.engine.proofs.Clearing.{messages_cleared, channels_cleared}
use Rattle.engine.proofs.Stores.{spent_then, spent_length}
use Rattle.engine.proofs.begin.clear.Goals as goal

pub zeros-left-requires : goal.zeros-left-requires
zeros-left-requires c i l =
    let a = c.args in
    let b : Sized present (spots.sized a.processes a.channels) a.store.now =
    record { processes = c.requires.0; channels = c.requires.1; cells = c.requires.2 } in
    omega (
      arith,
      c.message_count_cell-messages.ensures,
      message_cell present a.line i,
      in_store b _ _ (count_within b a.line (message_log i) l),
    )

pub zeros-requires : goal.zeros-requires
zeros-requires c i l =
    let a = c.args in
    let b : Sized present (spots.sized a.processes a.channels) a.store.now =
    record { processes = c.requires.0; channels = c.requires.1; cells = c.requires.2 } in
    omega (
      arith,
      c.channel_count_cell-first.ensures,
      channel_cell present a.line i,
      spent_length c.zeros-left.ensures,
      in_store b _ _ (count_within b a.line (channel_log i) l),
    )

pub returns : goal.returns
unfolding clear_writes
returns c =
    let a = c.args in
    spent_then (messages_cleared a.line a.processes c.message_count_cell-messages.ensures c.zeros-left.ensures)
    (channels_cleared a.line a.channels c.channel_count_cell-first.ensures c.zeros.ensures)
