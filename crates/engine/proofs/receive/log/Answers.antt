-- `engine::receive::log`: the channel's log first, then the receiver's.
use Rattle.std.proofs.Common.{◌+◌, sym, refl, arith}
use Rattle.model.specs.Layout.{message_log, channel_log}
use Rattle.engine.proofs.Stores.{spent_then, spent_length}
use Rattle.engine.proofs.Receptions.{both_cost, same_cell, moved, channel_place, message_place}
use Rattle.engine.proofs.receive.log.Goals as goal

pub append-left-requires : goal.append-left-requires
append-left-requires c = λ needed.
    let a = c.args in
    rw (same_cell _ (channel_log _) refl c.channel_count_cell-channel.ensures)
    (omega (arith, channel_place a.x a.s c.requires.0 c.requires.1 (a.s.round.line + 1) needed, c.requires.2))

pub append-requires : goal.append-requires
append-requires c = λ needed.
    let a = c.args in
    rw (same_cell _ (message_log _) refl c.message_count_cell-message.ensures)
    (omega (
      arith,
      message_place a.x a.s c.requires.0 c.requires.1 (a.s.round.line + 1) needed,
      c.requires.2,
      spent_length c.append-left.ensures,
    ))

pub returns : goal.returns
returns c =
    let a = c.args in
    let channel = same_cell _ (channel_log _) refl c.channel_count_cell-channel.ensures in
    let message = same_cell _ (message_log _) refl c.message_count_cell-message.ensures in
    record {
      store =
          (spent_then (moved a.x.channel_log _ _ channel c.append-left.ensures)
          (moved a.x.message_log _ _ message c.append.ensures)).store;
      needed = sym (both_cost a.x.channel_log a.x.message_log _ _ _ _ a.s.channel a.s.process a.got);
    }
