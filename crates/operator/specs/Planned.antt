-- What the reading of a plan promises.
use Rattle.std.specs.Prelude.{ℕ, ◌≡◌, List, Result, Ok, Err}
use Rattle.std.proofs.Math.Option.{none, some}
use Rattle.model.specs.declared.Topology.{Topology}
use Rattle.model.specs.Topology.{topology_refusal}
use Rattle.model.specs.Program.{plan_of, plan_refusal}
use Rattle.operator.specs.declared.refused.Refused.{Refused}
use Rattle.operator.specs.ConsoleAnswer.{plan_refused, refused_in}

-- a plan that passes all of its checks
pub record Passes (bytes : List ℕ) (T : Topology) : Type 0 where
  pub plan : T ≡ plan_of bytes
  pub checks : plan_refusal bytes ≡ none
  pub accepted : topology_refusal T ≡ none

-- or what refuses it
pub record Fails (bytes : List ℕ) (r : Refused) : Type 0 where
  pub number : ℕ
  pub checks : plan_refusal bytes ≡ some number
  pub told : refused_in r ≡ plan_refused number

abbrev pub Planned : List ℕ → Result Topology Refused → Type 0
Planned bytes (Ok T) = Passes bytes T
Planned bytes (Err r) = Fails bytes r
