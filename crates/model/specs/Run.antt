-- Lists of calls after an accepted setup: steps 1 to 8 and restarts in any order, with any arguments and any current.
use Rattle.std.specs.Prelude.{ℕ, ◌+◌, Bool, true, false, cond, ◌&&◌, List, [], ◌∷◌}
use Rattle.model.specs.declared.Topology.{Topology}
use Rattle.model.specs.declared.Step.{Step}
use Rattle.model.specs.declared.Step.TheVariants.{Send, Receive, Begin, PhysicalCheckpoint}
use Rattle.model.specs.declared.Step.TheVariants.{LogicalCheckpoint, SendMarker, Commit, Abort}
use Rattle.model.specs.State.{GlobalState}
use Rattle.model.specs.Outcome.{Said}
use Rattle.model.specs.Step.{answer}
use Rattle.model.specs.Start.{Startup, initialize, recover, recover_said, state_or}
use Rattle.model.specs.Heard.{Heard, heard, is_accepted}
use Rattle.model.specs.History.{History, new_history, on_step, on_recover}

-- a call: a step with its budget, or a recover. The arguments are any natural numbers.
pub data Call : Type 0 where
  call : Step → ℕ → Call
  recovery : Call

-- what there is between two calls: the state, the store, the histories, and how many commits were accepted
pub record World : Type 0 where
  pub state : GlobalState
  pub store : List ℕ
  pub history : History
  pub commits : ℕ

unfoldable pub is_commit : Call → Bool
is_commit (call (Send c b) budget) = false
is_commit (call (Receive c) budget) = false
is_commit (call Begin budget) = false
is_commit (call (PhysicalCheckpoint p) budget) = false
is_commit (call (LogicalCheckpoint p) budget) = false
is_commit (call (SendMarker c) budget) = false
is_commit (call Commit budget) = true
is_commit (call Abort budget) = false
is_commit recovery = false

-- What a call was answered: what the answer says, and the writes made. A recover makes none.
pub record Reply : Type 0 where
  pub call : Call
  pub outcome : Said
  pub made : ℕ

unfoldable pub reply_to : Topology → World → Call → Reply
reply_to T w (call x budget) =
    record {
      call = call x budget;
      outcome = (answer w.state x w.store budget).outcome;
      made = (answer w.state x w.store budget).made;
    }
reply_to T w recovery = record { call = recovery; outcome = recover_said (recover T w.store); made = 0 }

-- the histories after a call, by what was heard of its answer
unfoldable pub on_call : Topology → Call → Heard → History → History
on_call T (call x budget) o h = on_step T x o h
on_call T recovery o h = cond (is_accepted o) (on_recover h) h

-- one more, where a commit was accepted
unfoldable pub count_commit : Call → Heard → ℕ → ℕ
count_commit c o n = cond (is_accepted o && is_commit c) (n + 1) n

-- the histories, and the number of accepted commits, are fed replies alone
unfoldable pub on_reply : Topology → Reply → History → History
on_reply T r h = on_call T r.call (heard r.outcome) h

unfoldable pub commits_after : Reply → ℕ → ℕ
commits_after r n = count_commit r.call (heard r.outcome) n

unfoldable pub state_after : Topology → World → Call → GlobalState
state_after T w (call x budget) = (answer w.state x w.store budget).state
state_after T w recovery =
    let r : Startup = recover T w.store in state_or r.refusal r.state w.state

-- recover "only reads"
unfoldable pub store_after : Topology → World → Call → List ℕ
store_after T w (call x budget) = (answer w.state x w.store budget).store
store_after T w recovery = (recover T w.store).store

unfoldable pub next : Topology → World → Call → World
next T w c =
    let reply : Reply = reply_to T w c in
    record {
      state = state_after T w c;
      store = store_after T w c;
      history = on_reply T reply w.history;
      commits = commits_after reply w.commits;
    }

-- the calls one after the other
unfoldable pub run : Topology → World → List Call → World
run T w [] = w
run T w (c ∷ cs) = run T (next T w c) cs

-- the replies to them, in order: the trace of the run
unfoldable pub trace : Topology → World → List Call → List Reply
trace T w [] = []
trace T w (c ∷ cs) = reply_to T w c ∷ trace T (next T w c) cs

-- the start: what initialize leaves
unfoldable pub first_world : Topology → List ℕ → World
first_world T store =
    record {
      state = (initialize T store).state;
      store = (initialize T store).store;
      history = new_history;
      commits = 0;
    }
