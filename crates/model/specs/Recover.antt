-- Document 01's restart (recover), by the rules of a form of the store: what turns it down, and the state that it
-- answers. What setup (initialize) has in common with it is here too. "Setup and restart: 1 to 6, then 16.";
-- document 02, M-105, has 19 "after 5".
use Rattle.std.specs.Prelude.{ℕ, Bool, false, cond, not, ◌&&◌, List, [], ◌∷◌, length, leb, ltb}
use Rattle.std.proofs.Math.Option.{Option, none, some, or_else}
use Rattle.model.specs.declared.Topology.{Topology}
use Rattle.model.specs.declared.Entry.{Entry}
use Rattle.model.specs.Notation.{all_below}
use Rattle.model.specs.Check.{◌gives◌, first_refusal}
use Rattle.model.specs.Topology.{topology_refusal, has_process, has_channel, is_late}
use Rattle.model.specs.Channel.{messages}
use Rattle.model.specs.Form.{Form, cell, line_cell, Log, message_log, channel_log, places, store_cells, physical_cell}
use Rattle.model.specs.Form.{count_cell, receipts_by, restore, logged}
use Rattle.model.specs.State.{GlobalState, idle_state, blank_state}

-- what initialize and recover answer, with the number that they are refused with, if they are, and what they leave in
-- the store: a refusal gives only its number, here beside the blank state, and leaves the store as it was
pub record Startup : Type 0 where
  pub refusal : Option ℕ
  pub state : GlobalState
  pub store : List ℕ

unfoldable pub startup_or : Option ℕ → GlobalState → List ℕ → List ℕ → Startup
startup_or none s after before = record { refusal = none; state = s; store = after }
startup_or (some n) s after before = record { refusal = some n; state = blank_state; store = before }

-- the line that the store says was finished last
unfoldable pub stored_line : List ℕ → ℕ
stored_line store = cell store line_cell

module _ (F : Form) where
  -- 1 to 5 and 19, then "6 store under [the form's] cells."
  unfoldable pub initialize_refusal : Topology → ℕ → Option ℕ
  initialize_refusal T cells = or_else (topology_refusal T) (first_refusal ((ltb cells (store_cells F) gives 6) ∷ []))

  -- a log for line n has no more entries, by the store, than it has places
  unfoldable pub count_fits : List ℕ → ℕ → Log → Bool
  count_fits store n log = leb (cell store (count_cell F n log)) (places log)

  -- "a planned count in half k mod 2 is over 64 or 8" does not hold
  unfoldable pub counts_fit : Topology → List ℕ → Bool
  counts_fit T store =
      all_below T.processes (λ p. count_fits store (stored_line store) (message_log p))
      && all_below T.channels (λ c. count_fits store (stored_line store) (channel_log c))

  unfoldable pub recover_refusal : Topology → List ℕ → Option ℕ
  recover_refusal T store =
      or_else (initialize_refusal T (length store)) (first_refusal ((not (counts_fit T store) gives 16) ∷ []))

  -- what the slot for line n makes of process p, which is late or not, with as many entries of its message log as its
  -- count in the store says: "words by replaying board logs on copies", or undoing those of late boards
  unfoldable pub restored : Bool → List ℕ → ℕ → ℕ → ℕ
  restored late store n p =
      restore F late (cell store (physical_cell F n p))
      (receipts_by F store n p (cell store (count_cell F n (message_log p))))

  unfoldable pub recovered_word : Topology → List ℕ → ℕ → ℕ
  recovered_word T store p = cond (has_process T p) (restored (is_late T p) store (stored_line store) p) 0

  -- "wires filled from wire logs", "tags 0 on boards and messages"
  unfoldable pub recovered_channel : Topology → List ℕ → ℕ → List Entry
  recovered_channel T store c = cond (has_channel T c) (messages false (logged F store (stored_line store) c)) []

  -- "Restart only reads: from plan and store it gives an idle state at line k"
  unfoldable pub recover : Topology → List ℕ → Startup
  recover T store =
      startup_or (recover_refusal T store)
      (idle_state T (stored_line store) (recovered_word T store) (recovered_channel T store)) store store
