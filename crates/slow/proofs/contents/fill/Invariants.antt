-- the sends among the first k events, and those of them that were pushed
use Rattle.std.proofs.Common.{◌≡◌, ◌≤◌, ◌++◌, length}
use Rattle.model.specs.Channel.{entries}
use Rattle.slow.specs.Seen.{sent_by, between}
use Rattle.slow.proofs.contents.fill.Given as goal

abbrev pub invariant-loop-k : goal.invariant-loop-k
invariant-loop-k l = record {
  few : l.seen ≤ l.k;
  counted : l.seen ≡ length (sent_by l.turned l.past l.histories l.p l.channel l.k);
  pushed : entries l.c
      ≡ entries l.fn.first ++ between l.from l.to (sent_by l.turned l.past l.histories l.p l.channel l.k);
}
