-- What the functions that run a part promise.
use Rattle.std.specs.Prelude.{ℕ, ◌+◌, ◌≡◌, Bool, false, ◌&&◌, List, map, eqb, Option, Some, None, Result, IfOk}
use Rattle.std.proofs.Math.Option as maybe
use Rattle.std.proofs.Math.Option.{none, some}
use Rattle.model.specs.declared.Topology.{Topology}
use Rattle.model.specs.declared.Record.{Record}
use Rattle.model.specs.declared.Refusal.{Refusal}
use Rattle.model.specs.declared.State.{State}
use Rattle.model.specs.Outcome.{Said, refusal_number, refusal_of, refused_with, room_said}
use Rattle.model.specs.State.{view}
use Rattle.model.specs.Program.{full_budget}
use Rattle.model.specs.History.{new_history}
use Rattle.model.specs.Run.{World, Reply, trace}
use Rattle.model.specs.ProgramsAreRuns.{call_with}
use Rattle.model.specs.CallList.{Failure, first_from, rooms_of}
use Rattle.reduction.specs.declared.replay.Refused.{Refused}
use Rattle.reduction.specs.declared.replay.Replayed.{Replayed}
use Rattle.reduction.specs.Parts.{padded}

-- what a call's answer says, as how much room it says is left, or its refusal
pub record Says (x : Said) (r : Result ℕ Refusal) : Type 0 where
  pub refusal : refusal_of r ≡ refused_with x
  pub room : IfOk r (λ left. left ≡ room_said x)

-- a refused call as a failure; and how a run ends, as its first one
abbrev pub failure_of : Refused → Failure
failure_of r = record { place = r.place; number = refusal_number r.refusal }

abbrev pub failure_in : Option Refused → maybe.Option Failure
failure_in (Some r) = some (failure_of r)
failure_in None = none

-- a run that starts in this state and on this store
abbrev pub start_world : State → List ℕ → World
start_world s store = record { state = view s; store = store; history = new_history; commits = 0 }

-- the replies to these calls, from there on
abbrev pub replies_from : Topology → State → List ℕ → List Record → List Reply
replies_from T s store calls = trace T (start_world s store) (map (call_with full_budget) calls)

-- a run that is answered so: how it ends, and how much room its calls say is left
pub record Replays (replies : List Reply) (r : Replayed) : Type 0 where
  pub end : failure_in r.refused ≡ first_from 0 replies
  pub rooms : r.rooms ≡ padded (rooms_of replies)

-- whether the first failure of so many calls is the last of them, with this number
unfoldable pub ends_with : maybe.Option Failure → ℕ → ℕ → Bool
ends_with none count n = false
ends_with (some f) count n = eqb (f.place + 1) count && eqb f.number n
