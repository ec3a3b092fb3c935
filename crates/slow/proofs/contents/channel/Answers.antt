use Rattle.std.proofs.Common.{◌∙◌, arith}
use Rattle.model.specs.Topology.{sender, receiver}
use Rattle.model.specs.Channel.{entry_of}
use Rattle.slow.proofs.OnChannel.{split_by, ahead_fits, whole_fits, marked_told}
use Rattle.slow.proofs.contents.channel.Goals as goal

pub fill-ahead-requires : goal.fill-ahead-requires
unfolding sender receiver
fill-ahead-requires c =
    let split = split_by c.requires c.at-p.ensures c.at-q.ensures
    c.number_on-received.ensures.0 c.number_on-total.ensures.0 c.behind.ensures c.split-split.ensures in
    record {
      process = omega (arith, c.requires.from);
      fits = rw c.empty.ensures (omega (arith, ahead_fits split));
    }

pub push-with_marker-requires : goal.push-with_marker-requires
unfolding sender receiver
push-with_marker-requires c =
    let split = split_by c.requires c.at-p.ensures c.at-q.ensures
    c.number_on-received.ensures.0 c.number_on-total.ensures.0 c.behind.ensures c.split-split.ensures in
    rw (c.fill-ahead.ensures, c.empty.ensures) (ahead_fits split)

pub fill-requires : goal.fill-requires
unfolding sender receiver entry_of
fill-requires c =
    let split = split_by c.requires c.at-p.ensures c.at-q.ensures
    c.number_on-received.ensures.0 c.number_on-total.ensures.0 c.behind.ensures c.split-split.ensures in
    record {
      process = omega (arith, c.requires.from);
      fits = rw (c.push-with_marker.ensures, c.fill-ahead.ensures, c.empty.ensures) (whole_fits split);
    }

pub returns : goal.returns
unfolding sender receiver entry_of
returns c =
    let split = split_by c.requires c.at-p.ensures c.at-q.ensures
    c.number_on-received.ensures.0 c.number_on-total.ensures.0 c.behind.ensures c.split-split.ensures in
    c.fill.ensures ∙ rw (c.push-with_marker.ensures, c.fill-ahead.ensures, c.empty.ensures) (marked_told split)
