-- What the topology's checks of its channels come to, where only whether they pass is asked.
use Rattle.std.specs.Prelude.{ℕ, Bool, not, ◌&&◌, ◌==◌}
use Rattle.model.specs.declared.Topology.{Topology}
use Rattle.model.specs.Notation.{all_below}
use Rattle.model.specs.Topology.{sender, receiver, has_process, same_ends}

-- channel c joins two different processes of the topology: neither 3 nor 4
unfoldable pub joins_two : Topology → ℕ → Bool
joins_two T c =
    (has_process T (sender T c) && has_process T (receiver T c)) && not (sender T c == receiver T c)

-- no channel before channel c has its ends: not 5
unfoldable pub apart : Topology → ℕ → Bool
apart T c = all_below c (λ d. not (same_ends T d c))
