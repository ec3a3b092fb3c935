-- Document 01, "The steps": what turns a step down, in which order, and what an accepted step does.
use Rattle.std.specs.Prelude.{ℕ, ◌+◌, Bool, false, cond, not, ◌&&◌, ◌||◌, List, [], ◌∷◌, ◌++◌, length, ltb, eqb}
use Rattle.std.proofs.Math.Option.{Option, none, some}
use Rattle.model.specs.declared.Phase.TheVariants.{Physical, Logical}
use Rattle.model.specs.declared.Entry.{Entry}
use Rattle.model.specs.declared.Entry.TheVariants.{Message, Marker}
use Rattle.model.specs.declared.Step.{Step}
use Rattle.model.specs.declared.Step.TheVariants.{Send, Receive, Begin, PhysicalCheckpoint}
use Rattle.model.specs.declared.Step.TheVariants.{LogicalCheckpoint, SendMarker, Commit, Abort}
use Rattle.model.specs.Notation.{all_below}
use Rattle.model.specs.Outcome.{Said, done, sent, took, note, refused}
use Rattle.model.specs.Check.{Check, ◌gives◌, first_refusal}
use Rattle.model.specs.Topology.{sender, receiver, has_process, has_channel, is_late, first_early}
use Rattle.model.specs.Channel.{room_left, no_room_for_message, no_room_for_marker, no_entry, receipt_of}
use Rattle.model.specs.Phase.{is_idle, is_logical, is_next}
use Rattle.model.specs.Layout.{store_cells}
use Rattle.model.specs.State.{GlobalState, no_counts, no_progress, raised_all}
use Rattle.model.specs.Sound.{sound, last_line}
use Rattle.model.specs.Change.{with_tag, with_channel, with_progress, with_counts, in_phase, set_entries}
use Rattle.model.specs.Change.{enter_message, logical_checkpoint, close, record_saved, record_sent, plain_channels}
use Rattle.model.specs.Change.{end_round}
use Rattle.model.specs.Receive.{Reaction, logs_only, reaction_to, receiver_at, any_full}
use Rattle.model.specs.Write.{Result, Answered, under_budget, clear_writes, physical_writes, logs_writes}
use Rattle.model.specs.Write.{commit_writes}

-- "in copying, boards in rising order"; document 02, M-105, of a late board: "It may copy once marked, one time in a
-- round", so in marking; "Copies of late boards obey 12 as written here."
unfoldable pub may_checkpoint_physically : GlobalState → ℕ → Bool
may_checkpoint_physically s p =
    cond (is_late s.topology p)
    (is_logical s.round.phase && s.progress.logical p && not (s.progress.saved p))
    (is_next s.round.phase p)

-- "in marking, not yet marked, and board 0 before the rest"
unfoldable pub may_checkpoint_logically : GlobalState → ℕ → Bool
may_checkpoint_logically s p =
    is_logical s.round.phase && not (s.progress.logical p) && (eqb p 0 || s.progress.logical 0)

-- "in marking, sender marked, no note put on this wire this round"
unfoldable pub may_send_marker : GlobalState → ℕ → Bool
may_send_marker s c =
    is_logical s.round.phase && s.progress.logical (sender s.topology c) && not (s.progress.sent c)

-- whether process p has its physical checkpoint, in the logical phase: an early one had it before
unfoldable pub has_physical : GlobalState → ℕ → Bool
has_physical s p = not (is_late s.topology p) || s.progress.saved p

-- "in marking, every board marked, every wire closed"; document 02, M-105, of a late board's copy: "finish waits for
-- it"
unfoldable pub may_commit : GlobalState → Bool
may_commit s =
    is_logical s.round.phase
    && all_below s.topology.processes (λ p. s.progress.logical p && has_physical s p)
    && all_below s.topology.channels s.progress.closed

-- what an entry of channel c does to its receiver, as the state stands
unfoldable pub reaction : GlobalState → ℕ → Entry → Reaction
reaction s c e = reaction_to s.round.phase c (receiver_at s (receiver s.topology c)) e

-- what the first of these entries does; where there is none, nothing
unfoldable pub first_reaction : GlobalState → ℕ → List Entry → Reaction
first_reaction s c [] = logs_only []
first_reaction s c (e ∷ es) = reaction s c e

-- "in marking, a note taken on a closed wire": it would close the channel once more
unfoldable pub marker_on_closed : GlobalState → ℕ → Bool
marker_on_closed s c = (first_reaction s c (s.channel c)).closes && s.progress.closed c

-- What turns each step down, before the room on a channel and in a log is looked at: 8 no such board or wire; 12 not
-- now, by the conditions above; 13 begin with k = 4,294,967,295; 10 wire empty; 14 in marking, a note taken on a closed
-- wire.
unfoldable pub prior_checks : GlobalState → Step → List Check
prior_checks s (Send c b) = (not (has_channel s.topology c) gives 8) ∷ []
prior_checks s (Receive c) =
    (not (has_channel s.topology c) gives 8)
    ∷ (no_entry (s.channel c) gives 10)
    ∷ (marker_on_closed s c gives 14)
    ∷ []
prior_checks s Begin =
    (not (is_idle s.round.phase) gives 12) ∷ (eqb s.round.line last_line gives 13) ∷ []
prior_checks s (PhysicalCheckpoint p) =
    (not (has_process s.topology p) gives 8) ∷ (not (may_checkpoint_physically s p) gives 12) ∷ []
prior_checks s (LogicalCheckpoint p) =
    (not (has_process s.topology p) gives 8) ∷ (not (may_checkpoint_logically s p) gives 12) ∷ []
prior_checks s (SendMarker c) =
    (not (has_channel s.topology c) gives 8) ∷ (not (may_send_marker s c) gives 12) ∷ []
prior_checks s Commit = (not (may_commit s) gives 12) ∷ []
prior_checks s Abort = (is_idle s.round.phase gives 12) ∷ []

-- "9 wire holds 8 entries"
unfoldable pub room_checks : GlobalState → Step → List Check
room_checks s (Send c b) = (no_room_for_message (s.channel c) gives 9) ∷ []
room_checks s (Receive c) = []
room_checks s Begin = []
room_checks s (PhysicalCheckpoint p) = []
room_checks s (LogicalCheckpoint p) = []
room_checks s (SendMarker c) = (no_room_for_marker (s.channel c) gives 9) ∷ []
room_checks s Commit = []
room_checks s Abort = []

-- "11 the log needed is full"
unfoldable pub log_checks : GlobalState → Step → List Check
log_checks s (Send c b) = []
log_checks s (Receive c) = (any_full s.counts (first_reaction s c (s.channel c)).logs gives 11) ∷ []
log_checks s Begin = []
log_checks s (PhysicalCheckpoint p) = []
log_checks s (LogicalCheckpoint p) = []
log_checks s (SendMarker c) = []
log_checks s Commit = []
log_checks s Abort = []

-- a step's own checks, in document 01's order
unfoldable pub own_checks : GlobalState → Step → List Check
own_checks s x = prior_checks s x ++ (room_checks s x ++ log_checks s x)

-- "Order for steps: 15, 6, 8, 12, 13, 10, 14, 9, 11." cells is the number of the store's cells.
unfoldable pub step_checks : GlobalState → ℕ → Step → List Check
step_checks s cells x = (not (sound s) gives 15) ∷ (ltb cells store_cells gives 6) ∷ own_checks s x

-- the line that the round under way is for: "A round writes into the half for line k + 1, k being the state's."
unfoldable pub next_line : GlobalState → ℕ
next_line s = s.round.line + 1

-- no writes
unfoldable pub quietly : Said → GlobalState → Result
quietly outcome s = record { outcome = outcome; state = s; writes = [] }

-- the receiver r, the channel c and the logs' counts, as a reaction has them: "a note first marks an unmarked receiver,
-- then closes the wire"
unfoldable pub react : Reaction → ℕ → ℕ → GlobalState → GlobalState
react x c r s =
    let counted : GlobalState = with_counts (raised_all x.logs s.counts) s in
    let logical : GlobalState = cond x.logical_first (logical_checkpoint r counted) counted in
    cond x.closes (close c logical) logical

unfoldable pub received_outcome : Entry → Said
received_outcome (Message b t) = took b
received_outcome Marker = note

-- "Take wire: removes the first entry": what it does, by the entries of its channel. (An empty one is refused.)
unfoldable pub receive : GlobalState → ℕ → List Entry → Result
receive s c [] = quietly done s
receive s c (e ∷ es) =
    let r : ℕ = receiver s.topology c in
    let x : Reaction = reaction s c e in
    record {
      outcome = received_outcome e;
      state = enter_message c r e (set_entries c es (react x c r s));
      writes = logs_writes (next_line s) s.counts x.logs (receipt_of c e);
    }

-- the physical phase, with this process as the next one. Where there is none, "The last copy starts marking, with no
-- board marked, no wire closed and no note put."
unfoldable pub physical_at : Option ℕ → GlobalState → GlobalState
physical_at (some p) s = in_phase (Physical p) s
physical_at none s = in_phase Logical (with_progress no_progress s)

-- "boards in rising order": the first one from here on that isn't late; document 02, M-105: "A late board is passed
-- over in copying; if all are late, begin starts marking as the last copy does."
unfoldable pub physical_from : ℕ → GlobalState → GlobalState
physical_from from s = physical_at (first_early s.topology.processes s.topology.late from) s

-- what p's physical checkpoint makes of the state: where p is late, no more than that it has one
unfoldable pub after_physical : GlobalState → ℕ → GlobalState
after_physical s p = cond (is_late s.topology p) (record_saved p s) (physical_from (p + 1) s)

-- What an accepted step does.
unfoldable pub effect : GlobalState → Step → Result
-- "Send wire, body: the entry gets the sender's tag."; document 02, M-104: "A send answers how many entries the wire
-- can still hold afterwards"
effect s (Send c b) =
    let after : List Entry = s.channel c ++ (Message b (s.tag (sender s.topology c)) ∷ []) in
    quietly (sent (room_left after)) (set_entries c after s)
effect s (Receive c) = receive s c (s.channel c)
-- "Copying starts at board 0, for line k + 1", or at the first one that isn't late; "setup, restart and begin make
-- [every log's count] 0"
effect s Begin =
    record {
      outcome = done;
      state = physical_from 0 (with_counts no_counts s);
      writes = clear_writes s.topology (next_line s);
    }
effect s (PhysicalCheckpoint p) =
    record { outcome = done; state = after_physical s p; writes = physical_writes (next_line s) p (s.word p) }
effect s (LogicalCheckpoint p) = quietly done (logical_checkpoint p s)
effect s (SendMarker c) = quietly done (record_sent c (set_entries c (s.channel c ++ (Marker ∷ [])) s))
-- "The state becomes idle with line k + 1."
effect s Commit = record { outcome = done; state = end_round (next_line s) s; writes = commit_writes (next_line s) }
-- "Notes leave the wires, all tags become 0, message order stays, the state is idle."
effect s Abort = quietly done (end_round s.round.line (with_tag (λ p. false) (with_channel (plain_channels s) s)))

-- "A refusal makes 0 stores and returns the state handed in"
unfoldable pub result_of : Option ℕ → GlobalState → Step → Result
result_of none s x = effect s x
result_of (some n) s x = quietly (refused n) s

unfoldable pub step : GlobalState → ℕ → Step → Result
step s cells x = result_of (first_refusal (step_checks s cells x)) s x

-- a step's answer to a state, a store and a budget
unfoldable pub answer : GlobalState → Step → List ℕ → ℕ → Answered
answer s x store budget = under_budget budget s store (step s (length store) x)
