-- Document 01: setup (initialize) and restart (recover), in the present form of the store.
use Rattle.std.specs.Prelude.{ℕ, Bool, List, [], ◌∷◌, ◌++◌, length}
use Rattle.std.proofs.Math.Option.{Option, none, some}
use Rattle.model.specs.declared.Topology.{Topology}
use Rattle.model.specs.declared.Entry.{Entry}
use Rattle.model.specs.Notation.{tabulate, concat_below}
use Rattle.model.specs.Outcome.{Said, line, refused}
use Rattle.model.specs.Layout.{present, physical_cell, Log, message_log, channel_log, count_cell}
use Rattle.model.specs.State.{idle_state}
use Rattle.model.specs.Write.{Write, write_all, commit_writes}
use Rattle.model.specs.Recover as recovery
pub use Rattle.model.specs.Recover.{Startup}
unfoldable pub use Rattle.model.specs.Recover.{startup_or, stored_line}

-- 1 to 5 and 19, then "6 store under [5,313] cells."
abbrev pub initialize_refusal : Topology → ℕ → Option ℕ
initialize_refusal T cells = recovery.initialize_refusal present T cells

-- "Setup writes copy 0 and counts 0 for the planned boards and counts 0 for the planned wires in half 0, then 0 into
-- cell 0"
unfoldable pub initialize_writes : Topology → List Write
initialize_writes T =
    concat_below T.processes
    (λ p. record { cell = physical_cell 0 p; value = 0 } ∷ record { cell = count_cell 0 (message_log p); value = 0 }
    ∷ [])
    ++ tabulate T.channels (λ c. record { cell = count_cell 0 (channel_log c); value = 0 })
    ++ commit_writes 0

-- "It answers the idle state at line 0, words and tags 0, wires empty."
unfoldable pub initialize : Topology → List ℕ → Startup
initialize T store =
    startup_or (initialize_refusal T (length store)) (idle_state T 0 (λ p. 0) (λ c. []))
    (write_all store (initialize_writes T)) store

-- "Restart only reads: from plan and store it gives an idle state at line k", and the parts of that
abbrev pub recover : Topology → List ℕ → Startup
recover T store = recovery.recover present T store

abbrev pub recover_refusal : Topology → List ℕ → Option ℕ
recover_refusal T store = recovery.recover_refusal present T store

abbrev pub count_fits : List ℕ → ℕ → Log → Bool
count_fits store n log = recovery.count_fits present store n log

abbrev pub counts_fit : Topology → List ℕ → Bool
counts_fit T store = recovery.counts_fit present T store

abbrev pub restored : Bool → List ℕ → ℕ → ℕ → ℕ
restored late store n p = recovery.restored present late store n p

abbrev pub recovered_word : Topology → List ℕ → ℕ → ℕ
recovered_word T store p = recovery.recovered_word present T store p

abbrev pub recovered_channel : Topology → List ℕ → ℕ → List Entry
recovered_channel T store c = recovery.recovered_channel present T store c

-- what a recover says: "`line` and its number for a restart", or "`refused` and number"
unfoldable pub line_or : Option ℕ → ℕ → Said
line_or none k = line k
line_or (some n) k = refused n

unfoldable pub recover_said : Startup → Said
recover_said r = line_or r.refusal r.state.round.line

-- the state after a recover, the definitions' or the code's: its own, or the state as it was where it is refused
unfoldable pub state_or : {A : Type 0} → Option ℕ → A → A → A
state_or none after before = after
state_or (some n) after before = before
