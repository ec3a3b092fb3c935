-- What the invariant says of one process and of one channel, it says of plain values: these, and where they come from.
use Prim.Native.Nat.{ℕ, ◌+◌}
use mathlib.Core.Bool.{Bool}
use mathlib.Core.List.{List}
use mathlib.Core.Option.{Option}
use lib.ListN.{take}
use Rattle.model.specs.declared.Entry.{Entry}
use Rattle.model.specs.declared.Receipt.{Receipt}
use Rattle.model.specs.Topology.{sender, receiver, is_late}
use Rattle.model.specs.Layout.{cell, physical_cell, message_log, channel_log, count_cell, receipts_by, bodies_by}
use Rattle.model.specs.Layout.{logged}
use Rattle.model.specs.State.{GlobalState}
use Rattle.model.specs.History.{Event, History, Direction, sent, received, bodies_on}
use Rattle.model.proofs.laws.HistoryLaws.{before}

-- a process's history, its place in the finished line, and its mark of the round
pub record Book : Type 0 where
  pub events : List Event
  pub place : ℕ
  pub mark : Option ℕ

-- what a slot holds of a process: its physical checkpoint, the receipts of its message log, and how many it says that
-- they are
pub record Slot : Type 0 where
  pub physical : ℕ
  pub receipts : List Receipt
  pub count : ℕ

-- A process: whether it is late, its word, tag and progress, how many entries its message log has by the state, its
-- book, and the two slots. The pending slot is read with the state's count.
pub record Process : Type 0 where
  pub late : Bool
  pub word : ℕ
  pub tag : Bool
  pub logical : Bool
  pub saved : Bool
  pub count : ℕ
  pub book : Book
  pub finished : Slot
  pub pending : Slot

-- the bodies that a history has of one channel: all of them, those up to the finished line, those before the round's
-- mark
pub record Seen : Type 0 where
  pub all : List ℕ
  pub line : List ℕ
  pub mark : List ℕ

-- what a slot holds of a channel: its log's bodies, and how many it says that they are
pub record Held : Type 0 where
  pub bodies : List ℕ
  pub count : ℕ

-- A channel: its entries and progress, whether its sender and its receiver have their logical checkpoint, how many
-- entries its log has by the state, what its ends have sent and received, and the two slots.
pub record Channel : Type 0 where
  pub entries : List Entry
  pub sent : Bool
  pub closed : Bool
  pub sender : Bool
  pub receiver : Bool
  pub count : ℕ
  pub out : Seen
  pub arrived : Seen
  pub finished : Held
  pub pending : Held

unfoldable pub book_of : History → ℕ → Book
book_of h p = record { events = h.events p; place = h.line p; mark = h.mark p }

unfoldable pub seen_of : Direction → ℕ → Book → Seen
seen_of d c k =
    record {
      all = bodies_on d c k.events;
      line = bodies_on d c (take k.place k.events);
      mark = bodies_on d c (before k.mark k.events);
    }

-- the slot for line n: by the count k, and by its own counts
unfoldable pub slot_by : List ℕ → ℕ → ℕ → ℕ → Slot
slot_by st n k p =
    record {
      physical = cell st (physical_cell n p);
      receipts = receipts_by st n p k;
      count = cell st (count_cell n (message_log p));
    }

unfoldable pub slot_of : List ℕ → ℕ → ℕ → Slot
slot_of st n p = slot_by st n (cell st (count_cell n (message_log p))) p

unfoldable pub held_of : List ℕ → ℕ → ℕ → Held
held_of st n c = record { bodies = logged st n c; count = cell st (count_cell n (channel_log c)) }

unfoldable pub held_by : List ℕ → ℕ → ℕ → ℕ → Held
held_by st n k c = record { bodies = bodies_by st n c k; count = cell st (count_cell n (channel_log c)) }

module _ (s : GlobalState) (st : List ℕ) (h : History) where
  abbrev pub process_at : ℕ → Process
  process_at p =
      record {
        late = is_late s.topology p;
        word = s.word p;
        tag = s.tag p;
        logical = s.progress.logical p;
        saved = s.progress.saved p;
        count = s.counts.messages p;
        book = book_of h p;
        finished = slot_of st s.round.line p;
        pending = slot_by st (s.round.line + 1) (s.counts.messages p) p;
      }

  abbrev pub channel_at : ℕ → Channel
  channel_at c =
      record {
        entries = s.channel c;
        sent = s.progress.sent c;
        closed = s.progress.closed c;
        sender = s.progress.logical (sender s.topology c);
        receiver = s.progress.logical (receiver s.topology c);
        count = s.counts.channels c;
        out = seen_of sent c (book_of h (sender s.topology c));
        arrived = seen_of received c (book_of h (receiver s.topology c));
        finished = held_of st s.round.line c;
        pending = held_by st (s.round.line + 1) (s.counts.channels c) c;
      }
