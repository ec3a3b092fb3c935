-- Document 01: "A lent slice of [5,313] cells of 32 bits; further cells are never touched." As a statement; the theorem
-- is proofs/Untouched.antt.
use Rattle.std.specs.Prelude.{ℕ, ◌<◌, ◌≤◌, ◌≡◌, List, [], ◌∷◌}
use Rattle.std.proofs.Math.Option.{none}
use Rattle.model.specs.declared.Topology.{Topology}
use Rattle.model.specs.declared.Step.{Step}
use Rattle.model.specs.Topology.{topology_refusal}
use Rattle.model.specs.Layout.{store_cells, cell}
use Rattle.model.specs.State.{GlobalState}
use Rattle.model.specs.Write.{Write}
use Rattle.model.specs.Step.{step, answer}
use Rattle.model.specs.Start.{initialize, initialize_writes}

-- each of these writes goes to one of the store's cells
abbrev pub InStore : List Write → Type 0
InStore [] = Unit {0}
InStore (w ∷ ws) = (w.cell < store_cells) × InStore ws

pub record Untouched : Type 0 where
  -- the writes of a step, whatever the state, the step, and the number of cells lent; and those of an initialize
  pub steps : (s : GlobalState) (cells : ℕ) (x : Step) → InStore (step s cells x).writes
  pub starts : (T : Topology) → topology_refusal T ≡ none → InStore (initialize_writes T)
  -- so a further cell is left as it was by every call
  pub answers : (s : GlobalState) (x : Step) (store : List ℕ) (budget a : ℕ) → store_cells ≤ a
      → cell (answer s x store budget).store a ≡ cell store a
  pub initializes : (T : Topology) (store : List ℕ) (a : ℕ) → store_cells ≤ a
      → cell (initialize T store).store a ≡ cell store a
