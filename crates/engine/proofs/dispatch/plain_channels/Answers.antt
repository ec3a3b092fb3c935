-- `engine::dispatch::plain_channels`, channel by channel.
use Rattle.std.proofs.Common.{◌≡◌, ◌<◌, false, List, length, sym, ap, ◌∙◌, arith}
use Rattle.model.specs.declared.Entry.{Entry}
use Rattle.model.specs.Topology.{has_channel}
use Rattle.model.specs.Channel.{bodies, messages}
use Rattle.model.specs.State.{view}
use Rattle.model.specs.Change.{plain_channels}
use Rattle.engine.proofs.Views.{channel_read_lem, channel_set}
use Rattle.engine.proofs.Aborting.{plain_to_none, next_channel, plain_to_more}
use Rattle.engine.proofs.dispatch.plain_channels.Goals as goal

pub loop-c-init : goal.loop-c-init
loop-c-init c = plain_to_none _

pub loop-c-preserved : goal.loop-c-preserved
unfolding view
loop-c-preserved c =
    let l = c.loop-c in
    let s = l.state in
    let in_places : l.c < length s.places = omega arith in
    let in_lengths : l.c < length s.lengths = omega arith in
    channel_set s l.c in_places in_lengths c.plain-plain.result c.places.result c.used.result c.places.ensures
    c.used.ensures
    ∙ plain_to_more _ (view s) l.c l.invariant _
    (c.plain-plain.ensures
    ∙ ap (λ (es : List Entry). messages false (bodies es))
    (sym (channel_read_lem s l.c in_places _ c.held.ensures) ∙ next_channel _ (view s) l.c l.invariant))

pub returns : goal.returns
unfolding plain_channels has_channel view
returns c =
    let all : c.loop-c.c ≡ c.args.state.now.topology.channels = omega arith in
    rw all at c.loop-c.invariant
