-- The loop of `log::channel`: the first i bodies are the log's cells.
use Rattle.std.proofs.Common.{◌≡◌, ◌+◌, ℕ, length, get_or}
use Rattle.model.specs.Channel.{array_places}
use Rattle.model.specs.Form.{cell}
use Rattle.model.proofs.laws.Functions.{filled_below}
use Rattle.reading.proofs.log.channel.Given as goal

abbrev pub invariant-loop-i : goal.invariant-loop-i
invariant-loop-i l =
    record {
      room : length l.bodies ≡ array_places;
      filled : (λ (j : ℕ). get_or l.bodies j 0) ≡ filled_below l.i (λ j. cell l.store (l.at + 1 + j)) 0;
    }
