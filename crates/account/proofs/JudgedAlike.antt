-- The second account judges as the first one, in every state, sound or not (`judged_alike`): a step is turned down with
-- the same refusal (`same_refusal`), and where it isn't, it says the same and makes as many writes (`same_result`).
use Prim.Native.Nat.{ℕ, ◌+◌, ◌-◌}
use mathlib.Core.Path.{◌≡◌, refl, sym, ap, ◌∙◌}
use mathlib.Core.Bool.{Bool, true, false, cond, not, ◌&&◌, ◌||◌}
use mathlib.Core.List.{List, [], ◌∷◌, ◌++◌}
use mathlib.Core.Option.{Option, none, some, some-ne-none}
use lib.ListN.{length, length-append}
use lib.Dec.{eqb, ltb, leb}
use borrow.Author.Tests.{ltb-true, ltb-false, leb-true, leb-false, le-leb, lt-leb, eq-eqb, ne_eqb}
use native.Mathlib.Omega.{arith}
use Rattle.model.specs.declared.Topology.{Topology}
use Rattle.model.specs.declared.Phase.{Phase}
use Rattle.model.specs.declared.Phase.TheVariants.{Idle, Physical, Logical}
use Rattle.model.specs.declared.Entry.{Entry}
use Rattle.model.specs.declared.Entry.TheVariants.{Message, Marker}
use Rattle.model.specs.declared.Receipt.{Receipt}
use Rattle.model.specs.declared.Record.TheVariants as records
use Rattle.model.specs.declared.Step.{Step}
use Rattle.model.specs.declared.Step.TheVariants.{Send, Receive, Begin, PhysicalCheckpoint}
use Rattle.model.specs.declared.Step.TheVariants.{LogicalCheckpoint, SendMarker, Commit, Abort}
use Rattle.model.specs.Notation.{tabulate}
use Rattle.model.specs.Check.{first_refusal}
use Rattle.model.specs.Topology.{receiver, has_process, has_channel}
use Rattle.model.specs.Channel.{room_left, no_room_for_message, no_room_for_marker, no_entry}
use Rattle.model.specs.Layout.{Log, message_log, channel_log}
use Rattle.model.specs.State.{GlobalState, LogCounts}
use Rattle.model.specs.Record.{fields_of}
use Rattle.model.specs.Write.{clear_writes, physical_writes, commit_writes, cell_writes, append_writes, log_writes}
use Rattle.model.specs.Write.{logs_writes}
use Rattle.model.specs.Receive.{logs_only, log_if, in_message_log, reaction_to, receiver_at, any_full}
use Rattle.model.specs.Step.{may_checkpoint_physically, may_checkpoint_logically, may_send_marker, has_physical}
use Rattle.model.specs.Step.{may_commit}
use Rattle.model.specs.Step.{reaction, first_reaction, marker_on_closed, prior_checks, room_checks, log_checks}
use Rattle.model.specs.Step.{own_checks}
use Rattle.model.specs.Step.{quietly, next_line, received_outcome, receive, effect, result_of}
use Rattle.model.specs.Outcome.{sent}
use Rattle.model.proofs.laws.Tests.{or_false, Tested, holds, fails, test}
use Rattle.model.proofs.laws.Lists.{tabulate_length}
use Rattle.account.specs.declared.NeededLogs.{NeededLogs}
use Rattle.account.specs.Deeds.{fields_for}
use Rattle.account.specs.Judging.{in_logical, is_marker, first_on, no_such, physical_now, logical_now, marker_now}
use Rattle.account.specs.Judging.{ready}
use Rattle.account.specs.Judging.{commit_now, not_now, no_line_left, nothing_there, closed_before, no_room}
use Rattle.account.specs.Judging.{message_log_needed, channel_log_needed, logs_of, logs_needed, log_full, turned_down}
use Rattle.account.specs.Judging.{says, writes_made, said_or, made_or, judge}
use Rattle.account.specs.JudgedAlike.{JudgedAlike}

-- tests that say the same
not_below : (i n : ℕ) → leb n i ≡ not (ltb i n)
not_below i n = go (test (ltb i n))
  where
    go : Tested (ltb i n) → leb n i ≡ not (ltb i n)
    go (holds e) = lt-leb n i (ltb-true i n e) ∙ ap not (sym e)
    go (fails e) = le-leb n i (ltb-false i n e) ∙ ap not (sym e)

no_room_lem : (es : List Entry) → leb 8 (length es) ≡ eqb (room_left es) 0
no_room_lem es = go (test (leb 8 (length es)))
  where
    go : Tested (leb 8 (length es)) → leb 8 (length es) ≡ eqb (room_left es) 0
    go (holds e) = e ∙ sym (eq-eqb (room_left es) 0 (omega (arith, leb-true 8 (length es) e)))
    go (fails e) = e ∙ sym (ne_eqb (room_left es) 0 (λ z. omega (arith, z, leb-false 8 (length es) e)))

same_message_log : (p : ℕ) (late logical saved differs : Bool)
    → message_log_needed Logical p late logical saved differs ≡ in_message_log late (logical || differs) saved
unfolding message_log_needed in_message_log
same_message_log p false true saved differs = refl
same_message_log p false false saved differs = refl
same_message_log p true logical saved differs = refl

-- the logs of a receive, as a list
abbrev logs_in : ℕ → ℕ → NeededLogs → List Log
logs_in c p l = log_if l.channel (channel_log c) ++ log_if l.message (message_log p)

-- whether one of them is full, where x says that the channel's is needed and y that the process's is
abbrev one_full : LogCounts → ℕ → ℕ → Bool → Bool → Bool
one_full counts c p x y = (x && leb 8 (counts.channels c)) || (y && leb 64 (counts.messages p))

same_full : (counts : LogCounts) (c p : ℕ) (l : NeededLogs)
    → any_full counts (logs_in c p l) ≡ one_full counts c p l.channel l.message
unfolding any_full
same_full counts c p l = go l.channel l.message
  where
    go : (x y : Bool)
        → any_full counts (log_if x (channel_log c) ++ log_if y (message_log p)) ≡ one_full counts c p x y
    go true true = rw or_false
    go true false = refl
    go false true = or_false _
    go false false = refl

module _ (s : GlobalState) (c : ℕ) where
  abbrev to : ℕ
  to = receiver s.topology c

  same_logs : (phase : Phase) → s.round.phase ≡ phase → (e : Entry)
      → (reaction_to phase c (receiver_at s to) e).logs ≡ logs_in c to (logs_of s to e)
  unfolding reaction_to logs_only logs_of channel_log_needed message_log_needed
  same_logs Idle is (Message b t) = rw is
  same_logs Idle is Marker = refl
  same_logs (Physical next) is (Message b t) = rw is
  same_logs (Physical next) is Marker = refl
  same_logs Logical is (Message b t) = rw (is, same_message_log)
  same_logs Logical is Marker = refl

  same_closing : (phase : Phase) (e : Entry)
      → (reaction_to phase c (receiver_at s to) e).closes ≡ (in_logical phase && is_marker e)
  unfolding reaction_to logs_only
  same_closing Idle e = refl
  same_closing (Physical next) (Message b t) = refl
  same_closing (Physical next) Marker = refl
  same_closing Logical (Message b t) = refl
  same_closing Logical Marker = refl

  -- a receive, by the entries of its channel
  receive_refusal : (es : List Entry) → s.channel c ≡ es
      → turned_down s (fields_of (records.Call (Receive c))) ≡ first_refusal (own_checks s (Receive c))
  unfolding fields_of first_refusal turned_down no_such not_now no_line_left nothing_there closed_before no_room
      log_full logs_needed first_on own_checks prior_checks room_checks log_checks has_channel no_entry marker_on_closed
      first_reaction reaction
  receive_refusal [] is = rw (is, not_below c s.topology.channels)
  receive_refusal (e ∷ es) is =
      rw (
        is,
        not_below c s.topology.channels,
        ne_eqb (length (e ∷ es)) 0 (λ z. omega (arith, z)),
        same_closing s.round.phase e,
        same_logs s.round.phase refl e,
        same_full s.counts c to (logs_of s to e),
      )

same_refusal : (s : GlobalState) (x : Step)
    → turned_down s (fields_of (records.Call x)) ≡ first_refusal (own_checks s x)
unfolding fields_of first_refusal turned_down no_such not_now no_line_left nothing_there closed_before no_room log_full
    physical_now logical_now marker_now ready commit_now own_checks prior_checks room_checks log_checks has_process
    has_channel no_room_for_message no_room_for_marker may_checkpoint_physically may_checkpoint_logically
    may_send_marker has_physical may_commit
same_refusal s (Send c b) = rw (not_below c s.topology.channels, no_room_lem (s.channel c))
same_refusal s (Receive c) = receive_refusal s c (s.channel c) refl
same_refusal s Begin = refl
same_refusal s (PhysicalCheckpoint p) = rw (not_below p s.topology.processes)
same_refusal s (LogicalCheckpoint p) = rw (not_below p s.topology.processes)
same_refusal s (SendMarker c) = rw (not_below c s.topology.channels, no_room_lem (s.channel c))
same_refusal s Commit = refl
same_refusal s Abort = refl

-- how many writes there are
log_writes_lem : (n : ℕ) (counts : LogCounts) (c p : ℕ) (r : Receipt) (l : NeededLogs)
    → length (logs_writes n counts (logs_in c p l) r) ≡ cond l.channel 2 0 + cond l.message 3 0
unfolding logs_writes log_writes append_writes cell_writes
log_writes_lem n counts c p r l = go l.channel l.message
  where
    go : (x y : Bool)
        → length (logs_writes n counts (log_if x (channel_log c) ++ log_if y (message_log p)) r)
        ≡ cond x 2 0 + cond y 3 0
    go true true = refl
    go true false = refl
    go false true = refl
    go false false = refl

clear_length : (T : Topology) (n : ℕ) → T.processes + T.channels ≡ length (clear_writes T n)
unfolding clear_writes
clear_length T n = sym (rw (length-append (tabulate T.processes _)) (simp tabulate_length))

-- the step's result, where it isn't turned down
record SameResult (s : GlobalState) (x : Step) : Type 0 where
  says : says s (fields_of (records.Call x)) ≡ (effect s x).outcome
  made : writes_made s (fields_of (records.Call x)) ≡ length (effect s x).writes

nothing_refused : (s : GlobalState) (c : ℕ) → s.channel c ≡ [] → first_refusal (own_checks s (Receive c)) ≡ none → ⊥
unfolding own_checks prior_checks first_refusal no_entry
nothing_refused s c is e = go (has_channel s.topology c) (rw is at e)
  where
    go : (x : Bool) → cond {A = Option ℕ} (not x) (some 8) (some 10) ≡ none → ⊥
    go true z = some-ne-none 10 z
    go false z = some-ne-none 8 z

receive_result : (s : GlobalState) (c : ℕ) (es : List Entry) → s.channel c ≡ es
    → first_refusal (own_checks s (Receive c)) ≡ none → SameResult s (Receive c)
unfolding says writes_made fields_of logs_needed first_on effect receive reaction received_outcome
receive_result s c [] is passes = absurd (nothing_refused s c is passes)
receive_result s c (Message b t ∷ es) is passes =
    record { says = rw is; made = rw (is, same_logs s c s.round.phase refl (Message b t), log_writes_lem) }
receive_result s c (Marker ∷ es) is passes =
    record { says = rw is; made = rw (is, same_logs s c s.round.phase refl Marker, log_writes_lem) }

same_result : (s : GlobalState) (x : Step) → first_refusal (own_checks s x) ≡ none → SameResult s x
unfolding says writes_made fields_of effect quietly physical_writes commit_writes
same_result s (Send c b) passes =
    record { says = ap (λ (n : ℕ). sent (8 - n)) (sym (length-append (s.channel c) _)); made = refl }
same_result s (Receive c) passes = receive_result s c (s.channel c) refl passes
same_result s Begin passes = record { says = refl; made = clear_length s.topology (next_line s) }
same_result s (PhysicalCheckpoint p) passes = record { says = refl; made = refl }
same_result s (LogicalCheckpoint p) passes = record { says = refl; made = refl }
same_result s (SendMarker c) passes = record { says = refl; made = refl }
same_result s Commit passes = record { says = refl; made = refl }
same_result s Abort passes = record { says = refl; made = refl }

either_way : (s : GlobalState) (x : Step) (o : Option ℕ) → (o ≡ none → SameResult s x)
    → (said_or o (says s (fields_of (records.Call x))) ≡ (result_of o s x).outcome)
    × (made_or o (writes_made s (fields_of (records.Call x))) ≡ length (result_of o s x).writes)
unfolding result_of quietly
either_way s x none same = ((same refl).says, (same refl).made)
either_way s x (some n) same = (refl, refl)

pub judged_alike : (s : GlobalState) (x : Step) (budget : ℕ) → JudgedAlike s x budget
unfolding judge fields_for
judged_alike s x budget =
    let (said, made) = either_way s x (first_refusal (own_checks s x)) (same_result s x) in
    record { outcome = rw (same_refusal s x) said; made = rw (same_refusal s x) made }
