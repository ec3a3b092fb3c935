-- A receive keeps the invariant, whatever the phase and the entry: by the phase, whether the receiver has its logical
-- checkpoint, and whether the message is old (it has the tag from before the round's logical checkpoints) or new.
use Prim.Native.Nat.{ℕ, ◌+◌, ◌<◌}
use mathlib.Core.Path.{◌≡◌, refl, sym, ap, subst, ◌∙◌}
use mathlib.Core.Bool.{Bool, true, false, not, ◌&&◌, beq, not-not}
use mathlib.Core.List.{List, [], ◌∷◌}
use lib.Dec.{ltb}
use borrow.Author.Tests.{leb-false, ltb-true, lt-ltb, not-true}
use native.Mathlib.Omega.{arith}
use Rattle.model.specs.declared.Phase.{Phase}
use Rattle.model.specs.declared.Phase.TheVariants.{Idle, Physical, Logical}
use Rattle.model.specs.declared.Entry.{Entry}
use Rattle.model.specs.declared.Entry.TheVariants.{Message, Marker}
use Rattle.model.specs.declared.Step.TheVariants.{Receive}
use Rattle.model.specs.Word.{receipt}
use Rattle.model.specs.Topology.{receiver, is_late}
use Rattle.model.specs.Channel.{no_entry}
use Rattle.model.specs.Layout.{Log, message_log, channel_log}
use Rattle.model.specs.State.{GlobalState, raised_all}
use Rattle.model.specs.Change.{set_entries, with_channel, enter_message, with_word, with_counts, logical_checkpoint}
use Rattle.model.specs.Change.{with_tag, with_progress, with_logical, with_closed, close}
use Rattle.model.specs.Write.{write_all, cell_writes, append_writes, log_writes, logs_writes}
use Rattle.model.specs.Receive.{Reaction, logs_only, reaction_to, any_full}
use Rattle.model.specs.Step.{effect, receive, reaction, first_reaction, react, received_outcome}
use Rattle.model.specs.Step.{next_line}
use Rattle.model.specs.History.{History, received, mark_now, mark_unmarked, add_event, on_step, on_accepted, on_receive}
use Rattle.model.specs.History.{on_message}
use Rattle.model.proofs.laws.Tests.{true_is_not_false, and_left, and_right, and_both, or_left, Tested, holds}
use Rattle.model.proofs.laws.Tests.{fails, test, beq_same, beq_other}
use Rattle.model.proofs.laws.Functions.{upd_same}
use Rattle.model.proofs.laws.SoundLaws.{Fits}
use Rattle.model.proofs.laws.ReceiveLaws.{marked_logs, unmarked_logs}
use Rattle.model.proofs.laws.HistoryLaws.{received_on}
use Rattle.model.proofs.line.ChannelState.{new_sender}
use Rattle.model.proofs.line.Values.{Process, Channel, Seen, process_at, channel_at, book_of, seen_of}
use Rattle.model.proofs.line.Invariant.{tagged, EndsPlanned, Inv, Keeps}
use Rattle.model.proofs.line.Books.{longer, no_mark}
use Rattle.model.proofs.line.ProcessState.{receiving, logged_slot, received_idle, received_waiting}
use Rattle.model.proofs.line.ProcessState.{received_saved, received_before, received_unlogged}
use Rattle.model.proofs.line.ChannelKept.{leaving, left_idle, left_physical, left_before}
use Rattle.model.proofs.line.Phases.{process_in, channel_in}
use Rattle.model.proofs.line.ReceiveHistory.{on_early, on_late, stays_marked, on_marked, on_unmarked}
use Rattle.model.proofs.line.ReceiveHistory.{old_is_early, new_is_late}
use Rattle.model.proofs.line.LogicalKept.{logical_kept, logical_tag}
use Rattle.model.proofs.line.LogFrames.{log_lost_kept}
use Rattle.model.proofs.line.MessageKept.{receive_by, Both, Receives, Leaves, unlogged, message_alone}
use Rattle.model.proofs.line.MarkedReceives.{late_unsaved_in, Logged, LostOn, anti_logs, anti_lost, new_received}
use Rattle.model.proofs.line.MarkedReceives.{old_received, old_lost}
use Rattle.model.proofs.line.MarkerReceived.{no_marker, marker_received}

module _ (s : GlobalState) (st : List ℕ) (h : History) (c : ℕ) (l : c < s.topology.channels)
    (ends : EndsPlanned s.topology)
    (fits : Fits s.topology s.counts) (i : Inv s st h) where
  abbrev r : ℕ
  r = receiver s.topology c

  abbrev rl : r < s.topology.processes
  rl = (ends c l).1

  abbrev process : Process
  process = process_at s st h r

  abbrev channel : Channel
  channel = channel_at s st h c

  -- what a receive with this reaction keeps, if the logs that it needs have room
  abbrev Kept : Reaction → Entry → List Entry → Type 0
  Kept x e es = any_full s.counts x.logs ≡ false → Both s st h c (receive_by x s c e es)

  reacts : {x : Reaction} (e : Entry) (es : List Entry) → reaction s c e ≡ x → Kept x e es → Kept (reaction s c e) e es
  reacts e es is kept = subst (λ (x : Reaction). Kept x e es) (sym is) kept

  module _ (b : ℕ) (u : Bool) (es : List Entry) (first : s.channel c ≡ Message b u ∷ es) where
    abbrev arrived : Seen
    arrived = seen_of received c (longer (received_on c b) (book_of h r))

    -- a message that gives no logical checkpoint: it goes into these logs
    into : (logs : List Log) → reaction s c (Message b u) ≡ logs_only logs
        → on_message s.topology c b h ≡ add_event r (received_on c b) h
        → (any_full s.counts logs ≡ false → Logged s st h i ends fits c b u es l logs)
        → (any_full s.counts logs ≡ false → LostOn s st h i ends fits c b u es l logs)
        → Kept (reaction s c (Message b u)) (Message b u) es
    unfolding react logs_only received_outcome on_step on_accepted on_receive next_line
    into logs is told lasts lost =
        reacts (Message b u) es is (λ room. record { lasts = rw told (lasts room); lost = lost room })

    -- into none, into its receiver's message log alone, and into the channel's alone
    into_none : reaction s c (Message b u) ≡ logs_only []
        → on_message s.topology c b h ≡ add_event r (received_on c b) h
        → Receives s st h i ends c b u es l (receiving c b process.count process.pending process)
        → Leaves s st h i ends c b u es l (leaving es arrived channel.count channel.pending channel)
        → Kept (reaction s c (Message b u)) (Message b u) es
    unfolding raised_all logs_writes write_all
    into_none is told receives leaves =
        into [] is told (λ room. unlogged s st h i ends c b u es l receives leaves) (λ room x k. absurd (omega arith))

    into_message : reaction s c (Message b u) ≡ logs_only (message_log r ∷ [])
        → on_message s.topology c b h ≡ add_event r (received_on c b) h
        → Receives s st h i ends c b u es l
        (receiving c b (process.count + 1) (logged_slot (receipt c b) process) process)
        → Leaves s st h i ends c b u es l (leaving es arrived channel.count channel.pending channel)
        → Kept (reaction s c (Message b u)) (Message b u) es
    unfolding any_full raised_all logs_writes log_writes append_writes cell_writes
    into_message is told receives leaves =
        into (message_log r ∷ []) is told
        (λ room. message_alone s st h i ends c b u es l fits (leb-false _ _ (or_left _ _ room)) receives leaves)
        (λ room. log_lost_kept s st h i fits (message_log r) rl (receipt c b) (leb-false _ _ (or_left _ _ room)))

    -- the sender has no mark outside the logical phase
    idle : s.round.phase ≡ Idle → Kept (reaction s c (Message b u)) (Message b u) es
    unfolding reaction reaction_to book_of
    idle phase =
        into_none (rw phase) (on_unmarked s.topology c b h (process_in i phase _ (ends c l).0).round.mark)
        (rw phase (received_idle c b (process_in i phase r rl)))
        (rw phase
        (left_idle i.tag r process channel c b u es first refl (process_in i phase r rl) (channel_in i phase c l)))

    physical : (next : ℕ) → s.round.phase ≡ Physical next → Tested (ltb r next && not (is_late s.topology r))
        → Kept (reaction s c (Message b u)) (Message b u) es
    unfolding reaction reaction_to book_of
    physical next phase (holds e) =
        into_message (rw (phase, e))
        (on_unmarked s.topology c b h (process_in i phase _ (ends c l).0).round.plain.mark)
        (rw phase
        (received_saved next c b (not-true _ (and_right (ltb r next) _ e)) (ltb-true r next (and_left _ _ e))
        (process_in i phase r rl)))
        (rw phase
        (left_physical i.tag r process channel c b u es first refl next (process_in i phase r rl)
        (channel_in i phase c l)))
    physical next phase (fails e) =
        into_none (rw (phase, e))
        (on_unmarked s.topology c b h (process_in i phase _ (ends c l).0).round.plain.mark)
        (rw phase
        (received_waiting next c b
        (λ early k. true_is_not_false (and_both (ltb r next) _ (lt-ltb r next k) (rw early)) e)
        (process_in i phase r rl)))
        (rw phase
        (left_physical i.tag r process channel c b u es first refl next (process_in i phase r rl)
        (channel_in i phase c l)))

    module _ (phase : s.round.phase ≡ Logical) where
      own_tag : (x : Bool) → s.progress.logical r ≡ x → s.tag r ≡ tagged i.tag x
      own_tag x e = (process_in i phase r rl).round.tag ∙ ap (tagged i.tag) e

      unsaved_now : Tested (late_unsaved_in s r)
      unsaved_now = test (late_unsaved_in s r)

      -- with a receiver that has its logical checkpoint: a new message, and an old one
      after : s.progress.logical r ≡ true → Tested (beq u (s.tag r))
          → Kept (reaction s c (Message b u)) (Message b u) es
      unfolding reaction reaction_to logs_only book_of tagged
      after e (holds q) =
          let new : u ≡ not i.tag = beq_same _ _ q ∙ own_tag true e in
          into (anti_logs s st h i ends fits c b u es l)
          (rw (phase, e, q, marked_logs (is_late s.topology r) (s.progress.saved r)))
          (on_marked s.topology c b h (process_in i phase r rl).round.mark e)
          (new_received s st h i ends fits c b u es l phase e first new unsaved_now)
          (anti_lost s st h i ends fits c b u es l unsaved_now)
      after e (fails q) =
          let old : u ≡ i.tag = beq_other _ _ q ∙ ap not (own_tag true e) ∙ not-not _ in
          into (channel_log c ∷ anti_logs s st h i ends fits c b u es l)
          (rw (phase, e, q, marked_logs (is_late s.topology r) (s.progress.saved r)))
          (on_marked s.topology c b h (process_in i phase r rl).round.mark e)
          (old_received s st h i ends fits c b u es l phase e first old unsaved_now)
          (old_lost s st h i ends fits c b u es l phase e first old unsaved_now)

      -- with one that has none yet: an old message, and a new one, which gives it its logical checkpoint first
      module _ (e : s.progress.logical r ≡ false) (q : beq u (s.tag r) ≡ true) where
        old : u ≡ i.tag
        unfolding tagged
        old = beq_same _ _ q ∙ own_tag false e

        told_old : on_message s.topology c b h ≡ add_event r (received_on c b) h
        unfolding book_of seen_of
        told_old =
            on_early s.topology c b h
            (old_is_early s.topology c b h (process_in i phase _ (ends c l).0).round.mark
            (no_mark (process_in i phase r rl).round.mark e) (rw first at (channel_in i phase c l).round.balanced)
            old)

        leaves_old : Leaves s st h i ends c b u es l (leaving es arrived channel.count channel.pending channel)
        leaves_old =
            rw phase
            (left_before i.tag r process channel c b u es first refl (process_in i phase r rl) refl
            (channel_in i phase c l) e old)

        before_old : Tested (is_late s.topology r) → Kept (reaction s c (Message b u)) (Message b u) es
        unfolding reaction reaction_to logs_only
        before_old (holds late) =
            into_none
            (rw (phase, e, q, unmarked_logs (is_late s.topology r) (s.progress.saved r), late)) told_old
            (rw phase (received_unlogged c b e (process_in i phase r rl) late)) leaves_old
        before_old (fails early) =
            into_message
            (rw (phase, e, q, unmarked_logs (is_late s.topology r) (s.progress.saved r), early)) told_old
            (rw phase (received_before c b e (process_in i phase r rl) early)) leaves_old

      module _ (e : s.progress.logical r ≡ false) (q : beq u (s.tag r) ≡ false) where
        new : u ≡ not i.tag
        unfolding tagged
        new = beq_other _ _ q ∙ ap not (own_tag false e)

        told : on_message s.topology c b h ≡ add_event r (received_on c b) (mark_now r h)
        unfolding book_of seen_of
        told =
            let balanced = rw first at (channel_in i phase c l).round.balanced in
            let unmarked-yet = no_mark (process_in i phase r rl).round.mark e in
            on_late s.topology c b h
            (new_is_late s.topology c b h (process_in i phase _ (ends c l).0).round.mark unmarked-yet balanced
            new e
            (new_sender balanced new) (rw first at (channel_in i phase c l).now))
            unmarked-yet

        before_new : Kept (reaction s c (Message b u)) (Message b u) es
        unfolding reaction reaction_to react received_outcome on_step on_accepted on_receive next_line
            logical_checkpoint with_tag with_progress with_logical with_counts set_entries with_channel enter_message
            with_word
        before_new =
            reacts
            {x = record { logical_first = true; closes = false; logs = anti_logs s st h i ends fits c b u es l }}
            (Message b u) es (rw (phase, e, q, marked_logs (is_late s.topology r) (s.progress.saved r)))
            (λ room.
            record {
              lasts =
                  rw told
                  (new_received (logical_checkpoint r s) st (mark_now r h)
                  (logical_kept s st h r rl phase e i) ends fits
                  c b u es l phase (upd_same s.progress.logical r true) first
                  (new ∙ ap not (sym (logical_tag s st h r rl phase e i))) unsaved_now room);
              lost = anti_lost s st h i ends fits c b u es l unsaved_now room;
            })

      message : Tested (s.progress.logical r) → Tested (beq u (s.tag r))
          → Kept (reaction s c (Message b u)) (Message b u) es
      message (holds e) same_tag = after e same_tag
      message (fails e) (holds q) = before_old e q (test (is_late s.topology r))
      message (fails e) (fails q) = before_new e q

  -- the marker, which comes in the logical phase alone
  module _ (es : List Entry) (first : s.channel c ≡ Marker ∷ es) (phase : s.round.phase ≡ Logical) where
    marker : Tested (s.progress.logical r) → Kept (reaction s c Marker) Marker es
    unfolding reaction reaction_to react raised_all logs_writes write_all received_outcome on_step on_accepted
        on_receive logical_checkpoint with_tag with_progress with_logical with_closed with_counts set_entries
        with_channel close enter_message book_of mark_unmarked
    marker (holds e) =
        reacts {x = record { logical_first = false; closes = true; logs = [] }} Marker es (rw (phase, e))
        (λ room.
        record {
          lasts =
              rw (stays_marked s.topology c 0 h (process_in i phase r rl).round.mark e)
              (marker_received s st h i c es phase e first);
          lost = λ x k. absurd (omega arith);
        })
    marker (fails e) =
        reacts {x = record { logical_first = true; closes = true; logs = [] }} Marker es (rw (phase, e))
        (λ room.
        record {
          lasts =
              rw (no_mark (process_in i phase r rl).round.mark e)
              (marker_received (logical_checkpoint r s) st (mark_now r h)
              (logical_kept s st h r rl phase e i) c es phase
              (upd_same s.progress.logical r true) first);
          lost = λ x k. absurd (omega arith);
        })

  -- any entry, in any phase
  entry : (ph : Phase) → s.round.phase ≡ ph → (e : Entry) (es : List Entry) → s.channel c ≡ e ∷ es
      → Kept (reaction s c e) e es
  entry Idle phase (Message b u) es first = idle b u es first phase
  entry Idle phase Marker es first = no_marker i.tag _ es (sym first ∙ (channel_in i phase c l).round)
  entry (Physical next) phase (Message b u) es first =
      physical b u es first next phase (test (ltb r next && not (is_late s.topology r)))
  entry (Physical next) phase Marker es first =
      no_marker i.tag _ es (sym first ∙ (channel_in i phase c l).round.plain)
  entry Logical phase (Message b u) es first =
      message b u es first phase (test (s.progress.logical r)) (test (beq u (s.tag r)))
  entry Logical phase Marker es first = marker es first phase (test (s.progress.logical r))

  pub receive_kept : no_entry (s.channel c) ≡ false
      → any_full s.counts (first_reaction s c (s.channel c)).logs ≡ false
      → Keeps s st h (Receive c)
  unfolding effect receive no_entry first_reaction
  receive_kept some-entry room =
      let both = go (s.channel c) refl some-entry room in record { lasts = both.lasts; lost = both.lost }
    where
      go : (es : List Entry) → s.channel c ≡ es → no_entry es ≡ false
          → any_full s.counts (first_reaction s c es).logs ≡ false → Both s st h c (receive s c (s.channel c))
      go [] is has room = true_is_not_false refl has
      go (e ∷ es) is has room =
          subst (λ (xs : List Entry). Both s st h c (receive s c xs)) (sym is)
          (entry s.round.phase refl e es is room)
