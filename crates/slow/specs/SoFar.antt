-- The answers so far: what `after`, `next` and `answers` promise on the way to Replays.
use Rattle.std.specs.Prelude.{ℕ, ◌≤◌, ◌<◌, ◌≡◌, List, map, get_or, length}
use Rattle.model.specs.declared.Topology.{Topology}
use Rattle.model.specs.declared.Record.{Record}
use Rattle.model.specs.Notation.{tabulate}
use Rattle.model.specs.Program.{full_budget}
use Rattle.model.specs.ProgramsAreRuns.{call_with}
use Rattle.model.specs.Run.{World, Reply, reply_to, run}
use Rattle.model.specs.CallList.{call_at}
use Rattle.slow.specs.declared.CallAnswer.{CallAnswer}
use Rattle.slow.specs.Replays.{call_said, unanswered, start}

-- an answer and a reply that say the same
pub record Says (a : CallAnswer) (r : Reply) : Type 0 where
  pub outcome : call_said a.outcome ≡ r.outcome
  pub made : a.made ≡ r.made

-- the run of the first n of these calls, and the reply to the one after
abbrev pub world_at : Topology → (ℕ → Record) → ℕ → World
world_at T f n = run T (start T) (map (call_with full_budget) (tabulate n f))

abbrev pub reply_at : Topology → (ℕ → Record) → ℕ → Reply
reply_at T f n = reply_to T (world_at T f n) (call_with full_budget (f n))

-- these answers are the run's to the first calls
pub record Answered (T : Topology) (calls : List Record) (answers : List CallAnswer) : Type 0 where
  pub told : (i : ℕ) → i < length answers → Says (get_or answers i unanswered) (reply_at T (call_at calls) i)

-- the first n answers are the run's, and the others are unused
pub record AnsweredSoFar (T : Topology) (calls : List Record) (n : ℕ) (answers : List CallAnswer) : Type 0 where
  pub told : (i : ℕ) → i < n → Says (get_or answers i unanswered) (reply_at T (call_at calls) i)
  pub unused : (i : ℕ) → n ≤ i → get_or answers i unanswered ≡ unanswered
  pub places : length answers ≡ 256
