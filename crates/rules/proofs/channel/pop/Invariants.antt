-- The loop of `rules::channel::pop`: the places below i hold what stands one place further on, and the others nothing.
use Rattle.std.proofs.Common.{◌≡◌, ℕ, ◌+◌, ◌-◌, ◌<◌, ◌≤◌, length}
use Rattle.model.specs.Channel.{array_places, entry_of, entry_at}
use Rattle.rules.proofs.channel.pop.Given as goal

abbrev pub invariant-loop-i : goal.invariant-loop-i
invariant-loop-i l =
    record {
      kinds : length l.r.kinds ≡ array_places;
      bodies : length l.r.bodies ≡ array_places;
      shorter : l.r.count ≡ l.c.count - 1;
      below : (j : ℕ) → j < l.i → entry_at l.r j ≡ entry_at l.c (j + 1);
      above : (j : ℕ) → l.i ≤ j → entry_at l.r j ≡ entry_of 0 0;
    }
