-- Document 01, "Stores, in order", and how far the current lasts.
use Rattle.std.specs.Prelude.{ℕ, ◌+◌, min, cond, List, [], ◌∷◌, ◌++◌, length, take, set, ltb}
use Rattle.model.specs.declared.Topology.{Topology}
use Rattle.model.specs.declared.Receipt.{Receipt}
use Rattle.model.specs.Notation.{tabulate}
use Rattle.model.specs.Outcome.{Said, cut}
use Rattle.model.specs.Layout.{line_cell, physical_cell, Log, message_log, channel_log, count_cell, entry_cell}
use Rattle.model.specs.Layout.{entry_for}
use Rattle.model.specs.State.{GlobalState, LogCounts, count_of}

-- one store of a value into a cell
pub record Write : Type 0 where
  pub cell : ℕ
  pub value : ℕ

unfoldable pub write : List ℕ → Write → List ℕ
write store w = set store w.cell w.value

-- the writes, one after the other
unfoldable pub write_all : List ℕ → List Write → List ℕ
write_all store [] = store
write_all store (w ∷ ws) = write_all (write store w) ws

-- "Begin: 0 into the count of each planned board, rising, then of each planned wire." n is the line that the round is
-- for.
unfoldable pub clear_writes : Topology → ℕ → List Write
clear_writes T n =
    tabulate T.processes (λ p. record { cell = count_cell n (message_log p); value = 0 })
    ++ tabulate T.channels (λ c. record { cell = count_cell n (channel_log c); value = 0 })

-- "Copy: the word."
unfoldable pub physical_writes : ℕ → ℕ → ℕ → List Write
physical_writes n p word = record { cell = physical_cell n p; value = word } ∷ []

-- these values into the cells from `at` on
unfoldable pub cell_writes : ℕ → List ℕ → List Write
cell_writes at [] = []
cell_writes at (v ∷ vs) = record { cell = at; value = v } ∷ cell_writes (at + 1) vs

-- "A logged take: body, then the raised count."; of a message log "body and wire, stored so, before the count". The
-- log's count stands in the cell `at`.
unfoldable pub append_writes : ℕ → ℕ → List ℕ → List Write
append_writes at count entry =
    cell_writes (entry_cell (length entry) at count) entry ++ (record { cell = at; value = count + 1 } ∷ [])

-- "a logged body goes to the place its log's count in the state names"
unfoldable pub log_writes : ℕ → Log → ℕ → Receipt → List Write
log_writes n log count r = append_writes (count_cell n log) count (entry_for log r)

-- a receipt into each of these logs, in their order; counts are those of the state
unfoldable pub logs_writes : ℕ → LogCounts → List Log → Receipt → List Write
logs_writes n counts [] r = []
logs_writes n counts (log ∷ logs) r = log_writes n log (count_of counts log) r ++ logs_writes n counts logs r

-- "Finish: k + 1 into cell 0."
unfoldable pub commit_writes : ℕ → List Write
commit_writes n = record { cell = line_cell; value = n } ∷ []

-- What a step does if the power holds: its outcome, the state after it, and the writes that it needs, in order.
pub record Result : Type 0 where
  pub outcome : Said
  pub state : GlobalState
  pub writes : List Write

-- What a step answers: outcome, writes made and state, and what it leaves in the store.
pub record Answered : Type 0 where
  pub outcome : Said
  pub made : ℕ
  pub state : GlobalState
  pub store : List ℕ

-- "If the step needs more, exactly that many are made, and the answer is "cut" with the state handed in. The answer
-- always tells the stores made." budget: "the number of stores the current lasts for"
unfoldable pub under_budget : ℕ → GlobalState → List ℕ → Result → Answered
under_budget budget s store r =
    record {
      outcome = cond (ltb budget (length r.writes)) cut r.outcome;
      made = min budget (length r.writes);
      state = cond (ltb budget (length r.writes)) s r.state;
      store = write_all store (take budget r.writes);
    }

-- the answer where the current lasts: all the writes are made
abbrev pub in_full : List ℕ → Result → Answered
in_full store r =
    record {
      outcome = r.outcome;
      made = length r.writes;
      state = r.state;
      store = write_all store r.writes;
    }
