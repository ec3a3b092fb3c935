-- What the programs serve is a run: the lines of a session are the replies to a list of calls after an initialize, so
-- all that holds of such lists holds of `head` and `drill`. The theorem is proofs/ProgramsAreRuns.antt.
use Rattle.std.specs.Prelude.{ℕ, ◌+◌, ◌≤◌, ◌≡◌, Bool, List, [], ◌∷◌, ◌++◌, map, length, take, drop}
use Rattle.std.proofs.Math.Option.{none}
use Rattle.model.specs.declared.Topology.{Topology}
use Rattle.model.specs.declared.Record.{Record}
use Rattle.model.specs.declared.Record.TheVariants as records
use Rattle.model.specs.Outcome.{line}
use Rattle.model.specs.Layout.{store_cells}
use Rattle.model.specs.Program.{BudgetSource, Request, Line, Session, input_bytes, plan_of, plan_length, plan_refusal}
use Rattle.model.specs.Program.{read_all, broken_line, session_of}
use Rattle.model.specs.Run.{Call, call, recovery, Reply, run, trace, first_world, commits_after}

-- a request as a call
unfoldable pub call_with : ℕ → Record → Call
call_with budget (records.Call x) = call x budget
call_with budget records.Recover = recovery

unfoldable pub call_of : Request → Call
call_of r = call_with r.budget r.content

-- a reply as line n, and replies as lines from n on
abbrev pub reply_line : ℕ → Reply → Line
reply_line n r = record { number = n; said = r.outcome; made = r.made }

unfoldable pub reply_lines : ℕ → List Reply → List Line
reply_lines n [] = []
reply_lines n (r ∷ rs) = reply_line n r ∷ reply_lines (n + 1) rs

-- what a recover's reply says, where so many commits were accepted before it: their number
abbrev pub ToldLine : Call → ℕ → Reply → Type 0
ToldLine (call x budget) commits r = Unit
ToldLine recovery commits r = r.outcome ≡ line commits

-- every recover's
abbrev pub ToldLines : ℕ → List Reply → Type 0
ToldLines commits [] = Unit
ToldLines commits (r ∷ rs) = ToldLine r.call commits r × ToldLines (commits_after r commits) rs

-- A session of these requests, after an initialize of T on this store; broken: the bytes after them aren't one.
pub record IsRun (T : Topology) (store : List ℕ) (requests : List Request) (broken : Bool) (s : Session) : Type 0 where
  -- Its lines are the replies to the requests as calls, and the line for the bytes that broke off.
  pub lines : s.lines
      ≡ reply_lines 1 (trace T (first_world T store) (map call_of requests)) ++ broken_line broken (1 + length requests)
  -- No restart is refused, and its line's number is the number of accepted finishes before it.
  pub recovers : ToldLines 0 (trace T (first_world T store) (map call_of requests))
  -- The state that is printed last, and the store that is left, are those after the run.
  pub state : s.state ≡ (run T (first_world T store) (map call_of requests)).state
  pub left : s.store ≡ (run T (first_world T store) (map call_of requests)).store

-- Any input whose plan is not refused, any store that is long enough, and either source of budgets: what `head` and
-- `drill` print (Program.played_of) is the session of such a run.
abbrev pub ProgramsAreRuns : Type 0
ProgramsAreRuns =
    (source : BudgetSource) (store input : List ℕ) → store_cells ≤ length store
    → let bytes = take input_bytes input in
    let records = drop (plan_length bytes) bytes in
    let all = read_all source (length records) records in
    plan_refusal bytes ≡ none
    → IsRun (plan_of bytes) store all.requests all.broken (session_of source (plan_of bytes) store records)
