use Rattle.std.proofs.Common.{◌≡◌, ◌∙◌, ◌&&◌, not}
use Rattle.slow.specs.Kept.{past_of}
use Rattle.slow.specs.Seen.{held_by}
use Rattle.account.specs.Contents.{history_of, channel_by}
use Rattle.slow.proofs.Feeding.{ends_fit}
use Rattle.slow.proofs.Standings.{channel_is, marker_is}
use Rattle.slow.proofs.standing.held.Goals.{After-at-closed}
use Rattle.slow.proofs.standing.held.Goals as goal

-- what the flags say of the marker is what the past says
told : (c : After-at-closed) → let a = c.args in
    held_by a.topology a.past.now a.histories.now a.t (c.at-sent.result && not c.at-closed.result) a.c
    ≡ channel_by a.topology (past_of a.past.now) (history_of a.topology (past_of a.past.now)) a.c
told c =
    let a = c.args in
    let r = c.requires in
    channel_is a.topology (past_of a.past.now) a.c _ a.t _
    (marker_is a.topology (past_of a.past.now) a.c r.planned a.flags.now r.flags c.at-sent.ensures c.at-closed.ensures)
    r.tag r.fed.seen

pub channel-requires : goal.channel-requires
channel-requires c =
    let a = c.args in
    let r = c.requires in
    let ends = ends_fit a.topology r.ready.good a.c r.planned in
    record {
      from = ends.0;
      to = ends.1;
      fits = rw (told (goal.at.channel-requires c).After-at-closed) (r.ready.small.room a.c r.planned);
    }

pub returns : goal.returns
returns c = c.channel.ensures ∙ told (goal.at.returns c).After-at-closed
