-- The second theorem that ties the two accounts: with full current, each call of any list is answered as the past
-- before it tells. As a statement; the theorem is proofs/PastAnswers.antt.
use Rattle.std.specs.Prelude.{ℕ, ◌≡◌, List, [], ◌∷◌, map}
use Rattle.std.proofs.Math.Option.{none}
use Rattle.model.specs.declared.Topology.{Topology}
use Rattle.model.specs.declared.Record.{Record}
use Rattle.model.specs.Program.{full_budget}
use Rattle.model.specs.ProgramsAreRuns.{call_with}
use Rattle.model.specs.Start.{initialize}
use Rattle.model.specs.Run.{Call, Reply, trace, first_world}
use Rattle.account.specs.Deeds.{Past, deed_of}
use Rattle.account.specs.Standing.{state_of}
use Rattle.account.specs.Judging.{judge}

-- "Each time it works out": the replies, each by the past before it
unfoldable pub replies_by : Topology → Past → List Call → List Reply
replies_by T past [] = []
replies_by T past (c ∷ cs) = let r : Reply = judge (state_of T past) c in r ∷ replies_by T (deed_of r ∷ past) cs

abbrev pub PastAnswers : Type 0
PastAnswers =
    (T : Topology) (store : List ℕ) → (initialize T store).refusal ≡ none → (contents : List Record)
    → replies_by T [] (map (call_with full_budget) contents)
    ≡ trace T (first_world T store) (map (call_with full_budget) contents)
