-- The loop of `feed::feed`: the first i deeds are fed.
use Rattle.std.proofs.Common.{◌≡◌, ℕ, ◌≤◌, get_or}
use Rattle.account.specs.Contents.{history_of}
use Rattle.slow.specs.Kept.{latest, deed_at}
use Rattle.slow.specs.Seen.{history_seen}
use Rattle.slow.proofs.feed.feed.Given as goal

abbrev pub invariant-loop-i : goal.invariant-loop-i
invariant-loop-i l = record {
  seen : history_seen (deed_at l.past) l.now ≡ history_of l.topology (latest l.i (deed_at l.past));
  room : (p : ℕ) → get_or l.now.counts p 0 ≤ l.i;
}
