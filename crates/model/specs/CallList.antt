-- Document 02, M-100: "a list of at most 256 steps, restarts included, run from setup with full current, find the first
-- refusal". The list, the replies to its calls, and its first failure: which call is refused first, and with which
-- number. M-104: what its sends say of room.
use Rattle.std.specs.Prelude.{ℕ, ◌+◌, List, [], ◌∷◌, map, get_or, replicate}
use Rattle.std.proofs.Math.Option.{Option, none, some}
use Rattle.model.specs.declared.Topology.{Topology}
use Rattle.model.specs.declared.Record.{Record}
use Rattle.model.specs.declared.Record.TheVariants.{Call}
use Rattle.model.specs.declared.Step.TheVariants.{Send}
use Rattle.model.specs.Outcome.{refused_with, room_said}
use Rattle.model.specs.Layout.{store_cells}
use Rattle.model.specs.Program.{full_budget}
use Rattle.model.specs.Run.{Reply, trace, first_world}
use Rattle.model.specs.ProgramsAreRuns.{call_with}

-- "at most 256 steps"
abbrev pub list_limit : ℕ
list_limit = 256

-- what place i of a list holds; a place past its end reads as one fixed call
abbrev pub call_at : List Record → ℕ → Record
call_at list i = get_or list i (Call (Send 0 0))

-- "run from setup with full current", "in a store of its own": from an initialize on a store of zeros, as `head` has it
unfoldable pub replies : Topology → List Record → List Reply
replies T calls = trace T (first_world T (replicate store_cells 0)) (map (call_with full_budget) calls)

-- a call's place in its list, counted from 0, and the number that it is refused with
pub record Failure : Type 0 where
  pub place : ℕ
  pub number : ℕ

unfoldable pub failure_or : ℕ → Option ℕ → Option Failure → Option Failure
failure_or place (some n) later = some (record { place = place; number = n })
failure_or place none later = later

-- the first refusal among replies, the first of which is for the call at this place
unfoldable pub first_from : ℕ → List Reply → Option Failure
first_from place [] = none
first_from place (r ∷ rs) = failure_or place (refused_with r.outcome) (first_from (place + 1) rs)

-- "find the first refusal"
unfoldable pub first_failure : Topology → List Record → Option Failure
first_failure T calls = first_from 0 (replies T calls)

-- Document 02, M-104, "every part that hands a send on passes it up": how much room each call before the first refused
-- one says is left, with 0 for one that is no send.
unfoldable pub rooms_unless : Option ℕ → ℕ → List ℕ → List ℕ
rooms_unless (some n) room later = []
rooms_unless none room later = room ∷ later

unfoldable pub rooms_of : List Reply → List ℕ
rooms_of [] = []
rooms_of (r ∷ rs) = rooms_unless (refused_with r.outcome) (room_said r.outcome) (rooms_of rs)

unfoldable pub rooms : Topology → List Record → List ℕ
rooms T calls = rooms_of (replies T calls)
