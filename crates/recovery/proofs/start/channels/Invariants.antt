-- The loop of `recovery::start::channels`: the first c channels are filled, and the others are empty.
use Rattle.std.proofs.Common.{◌≡◌, [], length}
use Rattle.model.specs.Topology.{channel_limit}
use Rattle.model.specs.State.{entries_in}
use Rattle.model.proofs.laws.Functions.{filled_below}
use Rattle.recovery.proofs.Recovering.{channel_of}
use Rattle.recovery.proofs.start.channels.Given as goal

abbrev pub invariant-loop-c : goal.invariant-loop-c
invariant-loop-c l =
    record {
      places_length : length l.places ≡ channel_limit;
      lengths_length : length l.lengths ≡ channel_limit;
      filled : entries_in l.places l.lengths ≡ filled_below l.c (channel_of l.store) [];
    }
