-- Document 01: "Each step is given the number of stores the current lasts for. If the step needs more, exactly that
-- many are made, and the answer is "cut" with the state handed in." With full current that is never so: no step needs
-- more than 80 stores, and where the current lasts for as many, the answer is the step's whole result. For every state,
-- sound or not, every step and store. As a statement; the theorem is proofs/FullCurrent.antt.
use Rattle.std.specs.Prelude.{ℕ, ◌+◌, ◌≤◌, ◌≡◌, List, length}
use Rattle.model.specs.declared.Step.{Step}
use Rattle.model.specs.Topology.{process_limit, channel_limit}
use Rattle.model.specs.Outcome.{cut}
use Rattle.model.specs.State.{GlobalState}
use Rattle.model.specs.Write.{in_full}
use Rattle.model.specs.Step.{step, answer}
use Rattle.model.specs.Program.{full_budget}

-- the most that a step needs: begin's "0 into the count of each planned board, rising, then of each planned wire"
abbrev pub most_writes : ℕ
most_writes = process_limit + channel_limit

pub record FullCurrent : Type 0 where
  pub few : (s : GlobalState) (cells : ℕ) (x : Step) → length (step s cells x).writes ≤ most_writes
  -- the budget isn't seen in the answer
  pub whole : (s : GlobalState) (x : Step) (store : List ℕ) (budget : ℕ) → most_writes ≤ budget
      → answer s x store budget ≡ in_full store (step s (length store) x)
  pub uncut : (s : GlobalState) (x : Step) (store : List ℕ) (budget : ℕ) → most_writes ≤ budget
      → (answer s x store budget).outcome ≡ cut → ⊥
  -- "full current" is such a budget
  pub full : most_writes ≤ full_budget
