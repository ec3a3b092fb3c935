-- The loop of `recovery::start::words`: the words of the first p processes are there, and the others are 0.
use Rattle.std.proofs.Common.{◌≡◌, length}
use Rattle.model.specs.Topology.{process_limit}
use Rattle.model.proofs.laws.Functions.{filled_below}
use Rattle.recovery.specs.Starts.{words_seen}
use Rattle.recovery.proofs.Recovering.{word_of}
use Rattle.recovery.proofs.start.words.Given as goal

abbrev pub invariant-loop-p : goal.invariant-loop-p
invariant-loop-p l =
    record {
      length : length l.words ≡ process_limit;
      filled : words_seen l.words ≡ filled_below l.p (word_of l.topology l.store) 0;
    }
