-- The companion of demand 3: what every world is like that a list of calls reaches, and which refusals never come up in
-- it. The theorem is proofs/Reached.antt.
use Rattle.std.specs.Prelude.{ℕ, ◌≤◌, ◌≡◌, true, List}
use Rattle.std.proofs.Math.Option.{none}
use Rattle.model.specs.declared.Topology.{Topology}
use Rattle.model.specs.declared.Step.{Step}
use Rattle.model.specs.Sound.{sound}
use Rattle.model.specs.Outcome.{refused}
use Rattle.model.specs.Step.{answer}
use Rattle.model.specs.Start.{initialize, recover}
use Rattle.model.specs.Run.{Call, World, run, first_world}

pub record Reached (T : Topology) (w : World) : Type 0 where
  -- Its state is sound.
  pub sound : sound w.state ≡ true
  -- A step, whatever it is and whatever its budget, is refused with 8 to 13 alone: 15, 6 and 14 never come up.
  pub steps : (x : Step) (budget n : ℕ) → (answer w.state x w.store budget).outcome ≡ refused n
      → (8 ≤ n) × (n ≤ 13)
  -- A recover is not refused at all: 16 never comes up.
  pub recovers : (recover T w.store).refusal ≡ none

-- The companion of demand 3, under the same premises.
abbrev pub Demand3Companion : Type 0
Demand3Companion =
    (T : Topology) (store : List ℕ) → (initialize T store).refusal ≡ none → (calls : List Call)
    → Reached T (run T (first_world T store) calls)
