-- What the histories look for is there, in every world that a list of calls reaches. The theorem is
-- proofs/AlwaysFound.antt.
use Rattle.std.specs.Prelude.{ℕ, ◌<◌, ◌≡◌, true, List, [], ◌∷◌, take, drop}
use Rattle.std.proofs.Math.Option.{none, some}
use Rattle.model.specs.declared.Topology.{Topology}
use Rattle.model.specs.declared.Step.TheVariants.{Receive, Commit}
use Rattle.model.specs.Topology.{sender}
use Rattle.model.specs.Outcome.{took}
use Rattle.model.specs.Heard.{accepted}
use Rattle.model.specs.Step.{answer}
use Rattle.model.specs.Start.{initialize}
use Rattle.model.specs.History.{sent, looked_at}
use Rattle.model.specs.Run.{Call, World, run, first_world}

pub record HistoriesFind (T : Topology) (w : World) : Type 0 where
  -- An accepted commit finds a mark of the round for every planned process, so that `mark_or` never falls back.
  pub marks : (budget : ℕ) → accepted (answer w.state Commit w.store budget).outcome ≡ true
      → (p : ℕ) → p < T.processes → (m : ℕ) × (w.history.mark p ≡ some m)
  -- "the n-th send on it in the sender's book is looked at": an accepted receive of a message finds it, with the body
  -- received.
  pub sends : (c budget b : ℕ) → (answer w.state (Receive c) w.store budget).outcome ≡ took b
      → take 1 (drop (looked_at T c w.history) (w.history.events (sender T c)))
      ≡ record { direction = sent; channel = c; body = b } ∷ []

abbrev pub AlwaysFound : Type 0
AlwaysFound =
    (T : Topology) (store : List ℕ) → (initialize T store).refusal ≡ none → (calls : List Call)
    → HistoriesFind T (run T (first_world T store) calls)
