-- The first theorem that ties the two accounts: after an accepted setup and any list of calls, with any budgets, the
-- state that the past tells is the state of the run. As a statement; the theorem is proofs/PastIsState.antt.
use Rattle.std.specs.Prelude.{ℕ, ◌≡◌, List, []}
use Rattle.std.proofs.Math.Option.{none}
use Rattle.model.specs.declared.Topology.{Topology}
use Rattle.model.specs.Start.{initialize}
use Rattle.model.specs.Run.{Call, run, trace, first_world}
use Rattle.account.specs.Deeds.{onto}
use Rattle.account.specs.Standing.{state_of}

abbrev pub PastIsState : Type 0
PastIsState =
    (T : Topology) (store : List ℕ) → (initialize T store).refusal ≡ none → (calls : List Call)
    → state_of T (onto [] (trace T (first_world T store) calls)) ≡ (run T (first_world T store) calls).state
