-- No call makes a state unsound, as a statement. The theorem is proofs/Soundness.antt.
use Rattle.std.specs.Prelude.{ℕ, ◌≡◌, true, List}
use Rattle.std.proofs.Math.Option.{none}
use Rattle.model.specs.declared.Topology.{Topology}
use Rattle.model.specs.declared.Step.{Step}
use Rattle.model.specs.State.{GlobalState}
use Rattle.model.specs.Sound.{sound}
use Rattle.model.specs.Step.{answer}
use Rattle.model.specs.Start.{initialize, recover}

pub record Soundness : Type 0 where
  -- a step keeps soundness, accepted or not, whatever its budget
  pub steps : (s : GlobalState) (x : Step) (store : List ℕ) (budget : ℕ) → sound s ≡ true
      → sound (answer s x store budget).state ≡ true
  -- an accepted initialize or recover gives a sound state
  pub initializes : (T : Topology) (store : List ℕ) → (initialize T store).refusal ≡ none
      → sound (initialize T store).state ≡ true
  pub recovers : (T : Topology) (store : List ℕ) → (recover T store).refusal ≡ none
      → sound (recover T store).state ≡ true
