-- What the reader of a plan answers: the plan, or its refusal.
use Rattle.std.specs.Prelude.{ℕ, List, Result, Ok, Err}
use Rattle.std.proofs.Math.Option.{Option, none, some}
use Rattle.model.specs.declared.Topology.{Topology}
use Rattle.model.specs.declared.Refusal.{Refusal}
use Rattle.model.specs.Outcome.{refusal_number}
use Rattle.model.specs.State.{blank_topology}
use Rattle.model.specs.Program.{plan_of, plan_refusal}

-- what a reading says: document 01's number of the refusal, if there is one, and the plan
pub record PlanSaid : Type 0 where
  pub refusal : Option ℕ
  pub plan : Topology

-- a plan that is refused has the blank one in its place
abbrev pub refused_plan : ℕ → PlanSaid
refused_plan n = record { refusal = some n; plan = blank_topology }

abbrev pub plan_said : Result Topology Refusal → PlanSaid
plan_said (Ok T) = record { refusal = none; plan = T }
plan_said (Err r) = refused_plan (refusal_number r)

unfoldable pub plan_or : Option ℕ → Topology → PlanSaid
plan_or none T = record { refusal = none; plan = T }
plan_or (some n) T = refused_plan n

-- "The plan's checks run: under two bytes 7; 1; 2; wires broken off 7; 3 to 5."; document 02, M-105: "A map broken off
-- is 7, before 3.", and 19 "after 5"
unfoldable pub plan_in : List ℕ → PlanSaid
plan_in bytes = plan_or (plan_refusal bytes) (plan_of bytes)
