-- "further cells are never touched" (the statement is Untouched of specs/Untouched.antt): a step that writes is
-- accepted, so what it writes of is planned, and stands in one of the two slots or in the line cell.
use Prim.Native.Nat.{ℕ, ◌<◌, ◌≤◌}
use mathlib.Core.Path.{◌≡◌, refl}
use mathlib.Core.Bool.{false}
use mathlib.Core.List.{List, [], ◌∷◌, ◌++◌}
use mathlib.Core.Option.{Option, none, some}
use lib.ListN.{length, take, replicate, length-replicate}
use lib.Dec.{leb}
use borrow.Author.Tests.{leb-false}
use native.Mathlib.Omega.{arith}
use Rattle.model.specs.declared.Topology.{Topology}
use Rattle.model.specs.declared.Receipt.{Receipt}
use Rattle.model.specs.declared.Entry.{Entry}
use Rattle.model.specs.declared.Step.{Step}
use Rattle.model.specs.declared.Step.TheVariants.{Send, Receive, Begin, PhysicalCheckpoint}
use Rattle.model.specs.declared.Step.TheVariants.{LogicalCheckpoint, SendMarker, Commit, Abort}
use Rattle.model.specs.Notation.{concat_below, tabulate}
use Rattle.model.specs.Topology.{receiver, topology_refusal}
use Rattle.model.specs.Channel.{receipt_of}
use Rattle.model.specs.Layout.{present, store_cells, cell, physical_cell, Log, message_log, channel_log, places}
use Rattle.model.specs.Layout.{count_cell}
use Rattle.model.specs.State.{GlobalState, LogCounts, count_of}
use Rattle.model.specs.Write.{Write, write_all, under_budget, clear_writes, physical_writes, log_writes, logs_writes}
use Rattle.model.specs.Write.{commit_writes}
use Rattle.model.specs.Receive.{receiver_at, any_full}
use Rattle.model.specs.Start.{startup_or, initialize_refusal, initialize, initialize_writes}
use Rattle.model.specs.Step.{log_checks, next_line, quietly, reaction, first_reaction, receive, effect, step, answer}
use Rattle.model.specs.Untouched.{InStore, Untouched}
use Rattle.model.specs.Form as form
use Rattle.model.proofs.laws.Tests.{or_left, or_right}
use Rattle.model.proofs.laws.ReceiveLaws.{EachLog, reaction_logs}
use Rattle.model.proofs.laws.TopologyLaws.{Planned, receiver_planned}
use Rattle.model.proofs.laws.SoundLaws.{sound_facts}
use Rattle.model.proofs.laws.Calls.{Accepted, Stepped, stopped, passes, step_cases}
use Rattle.model.proofs.store.Writes.{Each, each_append, each_map, each_concat, each_tabulate, each_take, kept}
use Rattle.model.proofs.store.Sizes.{Sized, sized_topology, admitted}
use Rattle.model.proofs.store.Addresses.{Within, physical_within, count_within}
use Rattle.model.proofs.store.Slots.{InSlot, clear_in, physical_in, log_in, log_into}

-- the same, as the laws of writes have it
abbrev Below : List Write → Type 0
Below ws = Each (λ w. w.cell < store_cells) ws

in_store : (ws : List Write) → Below ws → InStore ws
in_store [] h = tt
in_store (w ∷ ws) h = (h.0, in_store ws h.1)

-- a slot is within the store
slot_below : (n a : ℕ) → Within present n a → a < store_cells
unfolding form.slot
slot_below n a h = omega arith

slot_writes : (n : ℕ) (ws : List Write) → InSlot n ws → Below ws
slot_writes n ws h =
    each_map (λ w. Within present n w.cell) (λ w. w.cell < store_cells) (λ w. slot_below n w.cell) ws h

-- an accepted topology over some store that is long enough
abbrev some_store : List ℕ
some_store = replicate store_cells 0

sized : (T : Topology) → topology_refusal T ≡ none → Sized present T some_store
sized T e = sized_topology present T some_store e (omega (arith, length-replicate {A = ℕ} store_cells 0))

-- a receipt into planned logs that have room
logs_below : (T : Topology) → topology_refusal T ≡ none → (n : ℕ) (counts : LogCounts) (logs : List Log) (r : Receipt)
    → EachLog (Planned T) logs → any_full counts logs ≡ false → Below (logs_writes n counts logs r)
unfolding logs_writes any_full
logs_below T ok n counts [] r planned room = tt
logs_below T ok n counts (log ∷ logs) r planned room =
    let has_room =
    leb-false (places log) (count_of counts log) (or_left (leb (places log) (count_of counts log)) _ room) in
    each_append (λ w. w.cell < store_cells) (log_writes n log (count_of counts log) r) (logs_writes n counts logs r)
    (slot_writes n (log_writes n log (count_of counts log) r)
    (log_in T some_store (sized T ok) n log planned.0 (log_writes n log (count_of counts log) r)
    (log_into n log (count_of counts log) r has_room)))
    (logs_below T ok n counts logs r planned.1 (or_right (leb (places log) (count_of counts log)) _ room))

receive_below : (s : GlobalState) → topology_refusal s.topology ≡ none → (c : ℕ) → c < s.topology.channels
    → (es : List Entry) → any_full s.counts (first_reaction s c es).logs ≡ false → Below (receive s c es).writes
unfolding receive quietly first_reaction reaction
receive_below s ok c l [] room = tt
receive_below s ok c l (e ∷ es) room =
    logs_below s.topology ok (next_line s) s.counts _ (receipt_of c e)
    (reaction_logs (Planned s.topology) s.round.phase c (receiver_at s (receiver s.topology c)) e
    (receiver_planned s.topology ok c l) l)
    room

effect_below : (s : GlobalState) (cells : ℕ) (x : Step) → Accepted s cells x → Below (effect s x).writes
unfolding effect quietly log_checks commit_writes
effect_below s cells (Send c b) a = tt
effect_below s cells (Receive c) a =
    receive_below s (sound_facts s a.fit).topology c a.prior.planned (s.channel c) a.logs.0
effect_below s cells Begin a =
    slot_writes (next_line s) (clear_writes s.topology (next_line s))
    (clear_in s.topology some_store (sized s.topology (sound_facts s a.fit).topology) (next_line s))
effect_below s cells (PhysicalCheckpoint p) a =
    slot_writes (next_line s) (physical_writes (next_line s) p (s.word p))
    (physical_in s.topology some_store (sized s.topology (sound_facts s a.fit).topology) (next_line s) p
    (s.word p)
    a.prior.planned)
effect_below s cells (LogicalCheckpoint p) a = tt
effect_below s cells (SendMarker c) a = tt
effect_below s cells Commit a = (omega arith, tt)
effect_below s cells Abort a = tt

step_below : (s : GlobalState) (cells : ℕ) (x : Step) → Below (step s cells x).writes
unfolding quietly
step_below s cells x = go (step_cases s cells x)
  where
    go : Stepped s cells x → Below (step s cells x).writes
    go (stopped r e) = rw e tt
    go (passes a e) = rw e (effect_below s cells x a)

initialize_below : (T : Topology) → topology_refusal T ≡ none → Below (initialize_writes T)
unfolding initialize_writes commit_writes
initialize_below T ok =
    let zeros : ℕ → List Write = λ p.
    record { cell = physical_cell 0 p; value = 0 } ∷ record { cell = count_cell 0 (message_log p); value = 0 } ∷ [] in
    let counts : ℕ → Write = λ c. record { cell = count_cell 0 (channel_log c); value = 0 } in
    let fit = sized T ok in
    each_append (λ w. w.cell < store_cells) (concat_below T.processes zeros ++ tabulate T.channels counts) _
    (each_append (λ w. w.cell < store_cells) (concat_below T.processes zeros) (tabulate T.channels counts)
    (each_concat (λ w. w.cell < store_cells) T.processes zeros
    (λ p l. (
      slot_below 0 (physical_cell 0 p) (physical_within fit 0 p l),
      (slot_below 0 (count_cell 0 (message_log p)) (count_within fit 0 (message_log p) l), tt),
    )))
    (each_tabulate (λ w. w.cell < store_cells) T.channels counts
    (λ c l. slot_below 0 (count_cell 0 (channel_log c)) (count_within fit 0 (channel_log c) l))))
    (omega arith, tt)

-- a cell behind all of these
beyond : (store : List ℕ) (ws : List Write) (a : ℕ) → store_cells ≤ a → Below ws
    → cell (write_all store ws) a ≡ cell store a
beyond store ws a l h =
    kept store ws a (each_map (λ w. w.cell < store_cells) (λ w. a ≡ w.cell → ⊥) (λ w k e. omega arith) ws h)

pub untouched : Untouched
unfolding answer under_budget initialize startup_or
untouched =
    record {
      steps = λ s cells x. in_store (step s cells x).writes (step_below s cells x);
      starts = λ T ok. in_store (initialize_writes T) (initialize_below T ok);
      answers = λ s x store budget a l.
          beyond store (take budget (step s (length store) x).writes) a l
          (each_take (λ w. w.cell < store_cells) budget (step s (length store) x).writes
          (step_below s (length store) x));
      initializes = λ T store a l. started T store a l _ (initialize_refusal T (length store)) refl;
    }
  where
    started : (T : Topology) (store : List ℕ) (a : ℕ) → store_cells ≤ a → (s : GlobalState) (o : Option ℕ)
        → initialize_refusal T (length store) ≡ o
        → cell (startup_or o s (write_all store (initialize_writes T)) store).store a ≡ cell store a
    started T store a l s none e =
        beyond store (initialize_writes T) a l (initialize_below T (admitted present T (length store) e).0)
    started T store a l s (some r) e = refl
