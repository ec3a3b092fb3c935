-- A message that is received: the receiver's word, its history and its channel change, and at most one log (of two, the
-- second: MessageKept). Given what becomes of that process and of that channel, the invariant holds.
use Prim.Native.Nat.{ℕ, ◌+◌, ◌<◌}
use mathlib.Core.Path.{◌≡◌, ◌∙◌}
use mathlib.Core.Bool.{Bool}
use mathlib.Core.List.{List}
use Rattle.model.specs.declared.Entry.{Entry}
use Rattle.model.specs.declared.Entry.TheVariants.{Message}
use Rattle.model.specs.Word.{receipt, enter}
use Rattle.model.specs.Topology.{sender, receiver}
use Rattle.model.specs.State.{GlobalState, LogCounts}
use Rattle.model.specs.Change.{set_entries, with_channel, enter_message, with_word, with_counts}
use Rattle.model.specs.History.{Event, History, sent, received, add_event}
use Rattle.model.proofs.laws.Functions.{by_index, upd_same, upd_other}
use Rattle.model.proofs.laws.HistoryLaws.{received_on, received_elsewhere, receive_is_no_send}
use Rattle.model.proofs.line.Values.{slot_by, held_by, book_of, seen_of, process_at, channel_at}
use Rattle.model.proofs.line.Invariant.{ProcessHolds, ChannelHolds, EndsPlanned, Inv}
use Rattle.model.proofs.line.Books.{longer, whole, book_added, book_added_other, seen_added}
use Rattle.model.proofs.line.ProcessState.{receiving}
use Rattle.model.proofs.line.ChannelKept.{leaving}
use Rattle.model.proofs.line.Frames.{Spared}

module _ (s : GlobalState) (st : List ℕ) (h : History) (i : Inv s st h) (ends : EndsPlanned s.topology) (c b : ℕ)
    (u : Bool)
    (es : List Entry) (l : c < s.topology.channels) where
  abbrev r : ℕ
  r = receiver s.topology c

  abbrev n : ℕ
  n = s.round.line + 1

  abbrev event : Event
  event = received_on c b

  -- the logs' counts and the store afterwards: the finished line is spared, and so is every other process and channel
  module _ (counts : LogCounts) (st' : List ℕ) (kept : Spared s st st')
      (slots : (q : ℕ) → q < s.topology.processes → (r ≡ q → ⊥)
      → (counts.messages q ≡ s.counts.messages q)
      × (slot_by st' n (s.counts.messages q) q ≡ slot_by st n (s.counts.messages q) q))
      (helds : (d : ℕ) → d < s.topology.channels → (c ≡ d → ⊥)
      → (counts.channels d ≡ s.counts.channels d)
      × (held_by st' n (s.counts.channels d) d ≡ held_by st n (s.counts.channels d) d)) where
    abbrev delivered : GlobalState
    delivered = enter_message c r (Message b u) (set_entries c es (with_counts counts s))

    -- what becomes of the receiver, and of the channel
    abbrev pub ReceiverHolds : Type 0
    ReceiverHolds =
        ProcessHolds i.tag s.round.phase r
        (receiving c b (counts.messages r) (slot_by st' n (counts.messages r) r) (process_at s st h r))

    abbrev pub ChannelTaken : Type 0
    ChannelTaken =
        ChannelHolds i.tag s.round.phase
        (leaving es (seen_of received c (longer event (book_of h r))) (counts.channels c)
        (held_by st' n (counts.channels c) c)
        (channel_at s st h c))

    processes : ReceiverHolds → (q : ℕ) → q < s.topology.processes
        → ProcessHolds i.tag s.round.phase q (process_at delivered st' (add_event r event h) q)
    unfolding enter_message set_entries with_channel with_word with_counts
    processes own =
        by_index (λ q. q < s.topology.processes
        → ProcessHolds i.tag s.round.phase q (process_at delivered st' (add_event r event h) q)) r
        (λ k.
        rw (kept.slots r k, upd_same s.word r (enter (s.word r) (receipt c b)), book_added h r event) own)
        (λ q o k.
        rw (
          kept.slots q k,
          upd_other s.word r q (enter (s.word r) (receipt c b)) o,
          book_added_other h r event q o,
          (slots q k o).0,
          (slots q k o).1,
        )
        (i.processes q k))

    channels : ChannelTaken → (d : ℕ) → d < s.topology.channels
        → ChannelHolds i.tag s.round.phase (channel_at delivered st' (add_event r event h) d)
    unfolding enter_message set_entries with_channel with_word with_counts
    channels own =
        by_index (λ d. d < s.topology.channels
        → ChannelHolds i.tag s.round.phase (channel_at delivered st' (add_event r event h) d)) c
        (λ k.
        rw (
          kept.helds c k,
          upd_same s.channel c es,
          book_added h r event,
          seen_added h r sent c event (sender s.topology c) (receive_is_no_send c c b)
              (whole s.round.phase (i.processes _ (ends c k).0)),
        )
        own)
        (λ d o k.
        rw (
          kept.helds d k,
          upd_other s.channel c d es o,
          seen_added h r sent d event (sender s.topology d) (receive_is_no_send d c b)
              (whole s.round.phase (i.processes _ (ends d k).0)),
          seen_added h r received d event (receiver s.topology d) (received_elsewhere d c b o)
              (whole s.round.phase (i.processes _ (ends d k).1)),
          (helds d k o).0,
          (helds d k o).1,
        )
        (i.channels d k))

    pub delivered_holds : ReceiverHolds → ChannelTaken → Inv delivered st' (add_event r event h)
    unfolding enter_message set_entries with_channel with_word with_counts
    delivered_holds receives arrived =
        record {
          sized = kept.sized;
          stored = kept.line ∙ i.stored;
          tag = i.tag;
          processes = processes receives;
          channels = channels arrived;
        }
