-- A message received keeps the invariant, by the logs that it goes into: none, the receiver's message log, the
-- channel's log, or both. Where it goes into both, the channel's log comes first; once that is written, and whether the
-- power lasts then or not, the invariant holds of the state as it was (`ahead_kept`), and what follows is a receive
-- into one log.
use Prim.Native.Nat.{ℕ, ◌+◌, ◌<◌}
use mathlib.Core.Path.{◌≡◌, refl, sym, ap, ◌∙◌}
use mathlib.Core.Bool.{Bool, true}
use mathlib.Core.List.{List, ◌∷◌}
use Rattle.model.specs.declared.Phase.TheVariants.{Logical}
use Rattle.model.specs.declared.Receipt.{Receipt}
use Rattle.model.specs.declared.Entry.{Entry}
use Rattle.model.specs.declared.Entry.TheVariants.{Message}
use Rattle.model.specs.declared.Step.TheVariants.{Receive}
use Rattle.model.specs.Notation.{upd}
use Rattle.model.specs.Word.{receipt}
use Rattle.model.specs.Topology.{receiver}
use Rattle.model.specs.Channel.{receipt_of}
use Rattle.model.specs.Layout.{Log, message_log, channel_log, message_places, channel_places}
use Rattle.model.specs.State.{GlobalState, LogCounts, raised}
use Rattle.model.specs.Change.{set_entries, enter_message, with_counts}
use Rattle.model.specs.Write.{Result, Write, write_all, log_writes, logs_writes}
use Rattle.model.specs.Receive.{Reaction}
use Rattle.model.specs.Step.{next_line, react, received_outcome}
use Rattle.model.specs.History.{History, received, add_event}
use Rattle.model.proofs.laws.Functions.{by_index, upd_same, upd_other}
use Rattle.model.proofs.laws.SoundLaws.{Fits}
use Rattle.model.proofs.laws.HistoryLaws.{received_on}
use Rattle.model.proofs.store.Slots.{IntoLog, log_into}
use Rattle.model.proofs.line.Counted.{ahead}
use Rattle.model.proofs.line.Values.{Process, Channel, Seen, process_at, channel_at, held_by, book_of, seen_of}
use Rattle.model.proofs.line.Invariant.{ProcessHolds, ChannelHolds, EndsPlanned, Inv, KeepsBy, KeepsLostBy}
use Rattle.model.proofs.line.Books.{longer}
use Rattle.model.proofs.line.ProcessState.{receiving, logged_slot}
use Rattle.model.proofs.line.ChannelKept.{leaving, logged_held}
use Rattle.model.proofs.line.Frames.{Spared}
use Rattle.model.proofs.line.Phases.{channel_in}
use Rattle.model.proofs.line.LogFrames.{other_message, other_channel, message_is_no_channel, log_spared}
use Rattle.model.proofs.line.LogFrames.{slot_aside, held_aside, slot_logged}
use Rattle.model.proofs.line.LogFrames.{held_behind, held_logged}
use Rattle.model.proofs.line.Delivered.{delivered_holds}

-- a receive with this reaction
abbrev pub receive_by : Reaction → GlobalState → ℕ → Entry → List Entry → Result
receive_by x s c e es =
    record {
      outcome = received_outcome e;
      state = enter_message c (receiver s.topology c) e (set_entries c es (react x c (receiver s.topology c) s));
      writes = logs_writes (next_line s) s.counts x.logs (receipt_of c e);
    }

-- it keeps the invariant, whether the power lasts or not
pub record Both (s : GlobalState) (st : List ℕ) (h : History) (c : ℕ) (result : Result) : Type 0 where
  pub lasts : KeepsBy s st h (Receive c) result
  pub lost : KeepsLostBy s st h result

-- where nothing is written there is nothing to lose
pub none_spared : {s : GlobalState} {st : List ℕ} {h : History} → Inv s st h → Spared s st st
none_spared i = record { sized = i.sized; line = refl; slots = λ p l. refl; helds = λ c l. refl }

module _ (s : GlobalState) (st : List ℕ) (h : History) (i : Inv s st h) (ends : EndsPlanned s.topology) (c b : ℕ)
    (u : Bool)
    (es : List Entry) (l : c < s.topology.channels) where
  abbrev r : ℕ
  r = receiver s.topology c

  abbrev n : ℕ
  n = s.round.line + 1

  abbrev got : Receipt
  got = receipt c b

  -- what becomes of the receiver, with the message in its log or not, and of the channel
  abbrev pub Receives : Process → Type 0
  Receives v = ProcessHolds i.tag s.round.phase r v

  abbrev pub Leaves : Channel → Type 0
  Leaves v = ChannelHolds i.tag s.round.phase v

  abbrev process : Process
  process = process_at s st h r

  abbrev channel : Channel
  channel = channel_at s st h c

  abbrev arrived : Seen
  arrived = seen_of received c (longer (received_on c b) (book_of h r))

  -- the state with the message received, and these counts of the logs; the histories with it
  abbrev pub delivered : LogCounts → GlobalState
  delivered counts = enter_message c r (Message b u) (set_entries c es (with_counts counts s))

  abbrev pub added : History
  added = add_event r (received_on c b) h

  -- in no log
  pub unlogged : Receives (receiving c b process.count process.pending process)
      → Leaves (leaving es arrived channel.count channel.pending channel) → Inv (delivered s.counts) st added
  unlogged receives leaves =
      delivered_holds s st h i ends c b u es l s.counts st (none_spared i) (λ q k o. (refl, refl))
      (λ d k o. (refl, refl))
      receives leaves

  module _ (fits : Fits s.topology s.counts) where
    -- in the receiver's message log, whatever the count of the channel's log becomes
    module _ (room : s.counts.messages r < message_places) where
      abbrev message_writes : List Write
      message_writes = log_writes n (message_log r) (s.counts.messages r) got

      abbrev after_message : List ℕ
      after_message = write_all st message_writes

      into_message : IntoLog n (message_log r) message_writes
      into_message = log_into n (message_log r) (s.counts.messages r) got room

      pub in_message_log_lem : (channels : ℕ → ℕ)
          → ((d : ℕ) → d < s.topology.channels → (c ≡ d → ⊥) → channels d ≡ s.counts.channels d)
          → Receives (receiving c b (process.count + 1) (logged_slot got process) process)
          → Leaves (leaving es arrived (channels c) (held_by after_message n (channels c) c) channel)
          → Inv (delivered
          (record { messages = upd s.counts.messages r (s.counts.messages r + 1); channels = channels }))
          after_message added
      in_message_log_lem channels others receives leaves =
          let log : Log = message_log r in
          let planned = (ends c l).1 in
          delivered_holds s st h i ends c b u es l _ after_message (log_spared s st h i fits log planned got room)
          (λ q k o. (
            upd_other s.counts.messages r q (s.counts.messages r + 1) o,
            slot_aside s st h i fits log planned got room message_writes into_message q k (other_message o),
          ))
          (λ d k o. (
            others d k o,
            held_aside s st h i fits log planned got room message_writes into_message d k message_is_no_channel,
          ))
          (rw (upd_same s.counts.messages r (s.counts.messages r + 1), slot_logged s st h i got r planned room)
          receives)
          leaves

      -- and where it stays
      pub message_alone : Receives (receiving c b (process.count + 1) (logged_slot got process) process)
          → Leaves (leaving es arrived channel.count channel.pending channel)
          → Inv (delivered (raised (message_log r) s.counts)) after_message added
      unfolding raised
      message_alone receives leaves =
          in_message_log_lem s.counts.channels (λ d k o. refl) receives
          (rw (held_aside s st h i fits (message_log r) (ends c l).1 got room message_writes into_message c l
          message_is_no_channel) leaves)

    -- in the channel's log
    module _ (room : s.counts.channels c < channel_places) where
      abbrev channel_writes : List Write
      channel_writes = log_writes n (channel_log c) (s.counts.channels c) got

      abbrev pub after_channel : List ℕ
      after_channel = write_all st channel_writes

      into_channel : IntoLog n (channel_log c) channel_writes
      into_channel = log_into n (channel_log c) (s.counts.channels c) got room

      pub channel_alone : Receives (receiving c b process.count process.pending process)
          → Leaves (leaving es arrived (channel.count + 1) (logged_held b channel) channel)
          → Inv (delivered (raised (channel_log c) s.counts)) after_channel added
      unfolding raised
      channel_alone receives leaves =
          let log : Log = channel_log c in
          delivered_holds s st h i ends c b u es l (raised log s.counts) after_channel
          (log_spared s st h i fits log l got room)
          (λ q k o. (
            refl,
            slot_aside s st h i fits log l got room channel_writes into_channel q k
                (λ e. message_is_no_channel (sym e)),
          ))
          (λ d k o. (
            upd_other s.counts.channels c d (s.counts.channels c + 1) o,
            held_aside s st h i fits log l got room channel_writes into_channel d k (other_channel o),
          ))
          (rw (slot_aside s st h i fits log l got room channel_writes into_channel r (ends c l).1
          (λ e. message_is_no_channel (sym e))) receives)
          (rw (upd_same s.counts.channels c (s.counts.channels c + 1), held_logged s st h i got c l room)
          leaves)

      -- the channel's log has it and the state doesn't: the count in the store is ahead, and the message is still first
      module _ (phase : s.round.phase ≡ Logical) (marked : s.progress.logical r ≡ true)
          (first : s.channel c ≡ Message b u ∷ es) (old : u ≡ i.tag) where
        own_ahead : ChannelHolds i.tag Logical (channel_at s after_channel h c)
        own_ahead =
            let v = channel_in i phase c l in
            let kept = log_spared s st h i fits (channel_log c) l got room in
            rw (kept.helds c l, held_behind s st h i got c l room)
            (record {
              now = v.now;
              finished = v.finished;
              fits = v.fits;
              round =
                  record {
                    balanced = v.round.balanced;
                    counted = ahead marked (first ∙ ap (λ (t : Bool). Message b t ∷ es) old);
                  };
            })

        pub ahead_kept : Inv s after_channel h
        ahead_kept =
            let log : Log = channel_log c in
            let kept = log_spared s st h i fits log l got room in
            record {
              sized = kept.sized;
              stored = kept.line ∙ i.stored;
              tag = i.tag;
              processes = λ q k.
                  rw (
                    kept.slots q k,
                    slot_aside s st h i fits log l got room channel_writes into_channel q k
                        (λ e. message_is_no_channel (sym e)),
                  )
                  (i.processes q k);
              channels =
                  by_index (λ d. d < s.topology.channels
                  → ChannelHolds i.tag s.round.phase (channel_at s after_channel h d)) c
                  (λ k. rw phase own_ahead)
                  (λ d o k.
                  rw (
                    kept.helds d k,
                    held_aside s st h i fits log l got room channel_writes into_channel d k (other_channel o),
                  )
                  (i.channels d k));
            }

        pub ahead_tag : ahead_kept.tag ≡ i.tag
        unfolding ahead_kept
        ahead_tag = refl
