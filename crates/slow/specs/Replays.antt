-- What the slow engine promises: for every topology and list, the refusal; or of each call what the run from setup with
-- full current answers, and the state after the last. Open are, as in every state, the unused places of its channels
-- and how a marker is spelled in its place (model's specs/State.antt), and nothing else.
use Rattle.std.specs.Prelude.{ℕ, ◌≤◌, ◌≡◌, List, map, get_or, length, replicate, Result, IsOkAnd}
use Rattle.std.proofs.Math.Option.{Option, none, some}
use Rattle.model.specs.declared.Topology.{Topology}
use Rattle.model.specs.declared.Record.{Record}
use Rattle.model.specs.declared.Refusal.{Refusal}
use Rattle.slow.specs.declared.CallAnswer.{CallAnswer}
use Rattle.model.specs.Notation.{tabulate}
use Rattle.model.specs.Outcome.{Said, line, said_by, refusal_of}
use Rattle.model.specs.Layout.{store_cells}
use Rattle.model.specs.State.{view}
use Rattle.model.specs.Program.{full_budget}
use Rattle.model.specs.ProgramsAreRuns.{call_with}
use Rattle.model.specs.Run.{World, Reply, run, first_world}
use Rattle.model.specs.CallList.{replies}
use Rattle.model.specs.Reduction.{list_refusal}
use Rattle.model.specs.declared.Outcome.TheVariants.{Done}
use Rattle.slow.specs.declared.CallOutcome.{CallOutcome}
use Rattle.slow.specs.declared.CallOutcome.TheVariants.{Step, Line}
use Rattle.slow.specs.declared.Replayed.{Replayed}

-- what the answer to a call of a list says
abbrev pub call_said : CallOutcome → Said
call_said (Step o) = said_by o
call_said (Line k) = line k

-- an unused place
abbrev pub unanswered : CallAnswer
unanswered = record { outcome = Step Done; made = 0 }

-- "run from setup", on a store of zeros
abbrev pub start : Topology → World
start T = first_world T (replicate store_cells 0)

-- what the answers say, in order: outcome and writes of each call
pub record Told : Type 0 where
  pub outcome : Said
  pub made : ℕ

abbrev pub told_by : CallAnswer → Told
told_by a = record { outcome = call_said a.outcome; made = a.made }

abbrev pub all_told : Replayed → List Told
all_told r = tabulate r.count (λ i. told_by (get_or r.answers i unanswered))

abbrev pub answered : Reply → Told
answered r = record { outcome = r.outcome; made = r.made }

-- refused, with this number
pub record Refuses (n : ℕ) (r : Result Replayed Refusal) : Type 0 where
  pub refusal : refusal_of r ≡ some n

-- or run
pub record Runs (T : Topology) (calls : List Record) (r : Replayed) : Type 0 where
  pub count : r.count ≡ length calls
  pub answers : all_told r ≡ map answered (replies T calls)
  pub unused : (i : ℕ) → r.count ≤ i → get_or r.answers i unanswered ≡ unanswered
  pub state : view r.state ≡ (run T (start T) (map (call_with full_budget) calls)).state

-- "18, the list is longer than 256, looked at first; then 1 to 5", and 19 (M-105)
abbrev pub ReplaysBy : Option ℕ → Topology → List Record → Result Replayed Refusal → Type 0
ReplaysBy (some n) T calls r = Refuses n r
ReplaysBy none T calls r = IsOkAnd r (Runs T calls)

pub record Replays (T : Topology) (calls : List Record) (r : Result Replayed Refusal) : Type 0 where
  pub replays : ReplaysBy (list_refusal T calls) T calls r
