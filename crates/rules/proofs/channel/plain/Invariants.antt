-- The loop of `rules::channel::plain`: r holds the messages among the first i entries, with tag 0.
use Rattle.std.proofs.Common.{◌≡◌, ◌≤◌, false}
use Rattle.model.specs.Channel.{entries, messages}
use Rattle.model.proofs.laws.ChannelLaws.{bodies_below}
use Rattle.rules.proofs.channel.plain.Given as goal

abbrev pub invariant-loop-i : goal.invariant-loop-i
invariant-loop-i l =
    record {
      few : l.r.count ≤ l.i;
      plain : entries l.r ≡ messages false (bodies_below l.i l.c);
    }
