-- What holds between any two calls of a list, for the proof of demand 3: of every planned process (`ProcessHolds`), and
-- of every planned channel (`ChannelHolds`). Each has the present, the finished line, and the round under way, by its
-- phase.
use Prim.Native.Nat.{ℕ, ◌<◌, ◌≤◌}
use mathlib.Core.Path.{◌≡◌}
use mathlib.Core.Bool.{Bool, true, false, cond, not, ◌&&◌}
use mathlib.Core.List.{List, [], ◌++◌}
use mathlib.Core.Option.{none}
use lib.ListN.{length, take}
use Rattle.model.specs.declared.Topology.{Topology}
use Rattle.model.specs.declared.Phase.{Phase}
use Rattle.model.specs.declared.Phase.TheVariants.{Idle, Physical, Logical}
use Rattle.model.specs.declared.Step.{Step}
use Rattle.model.specs.Word.{replay}
use Rattle.model.specs.Topology.{sender, receiver}
use Rattle.model.specs.Channel.{bodies, messages}
use Rattle.model.specs.Layout.{present, cell, line_cell, message_places, channel_places, restore}
use Rattle.model.specs.State.{GlobalState}
use Rattle.model.specs.Write.{Result, write_all}
use Rattle.model.specs.Step.{effect}
use Rattle.model.specs.Heard.{heard}
use Rattle.model.specs.History.{History, on_step}
use Rattle.model.proofs.laws.HistoryLaws.{word_of, before, Marked}
use Rattle.model.proofs.store.Sizes.{Sized}
use Rattle.model.proofs.line.Values.{Process, Channel, process_at, channel_at}
use Rattle.model.proofs.line.ChannelState.{Balanced}
use Rattle.model.proofs.line.Counted.{Counted}

-- the tag of a process, by whether it has its logical checkpoint; t is the tag before the round's logical checkpoints
unfoldable pub tagged : Bool → Bool → Bool
tagged t false = t
tagged t true = not t

-- outside the logical phase a process has the tag that all have, and no mark of a round
pub record Unmarked (t : Bool) (v : Process) : Type 0 where
  pub tag : v.tag ≡ t
  pub mark : v.book.mark ≡ none

-- The physical phase: an early process below next is saved as it stands now, and the message log of any other is empty.
pub record PhysicalProcess (t : Bool) (next p : ℕ) (v : Process) : Type 0 where
  pub plain : Unmarked t v
  pub saved : v.late ≡ false → p < next → replay v.pending.physical v.pending.receipts ≡ v.word
  pub waiting : next ≤ p → v.count ≡ 0
  pub unlogged : v.late ≡ true → v.count ≡ 0
  pub counted : v.count ≡ v.pending.count

-- a late process that has no physical checkpoint yet
abbrev pub late_unsaved : Process → Bool
late_unsaved v = v.late && not v.saved

-- the physical checkpoint in the pending slot, or what it would be if it were made now
unfoldable pub physical_now : Process → ℕ
physical_now v = cond (late_unsaved v) v.word v.pending.physical

-- The logical phase: a process is saved as it stood at its mark, or stands now.
pub record LogicalProcess (t : Bool) (v : Process) : Type 0 where
  pub tag : v.tag ≡ tagged t v.logical
  pub mark : Marked (length v.book.events) v.logical v.book.mark
  pub saved : restore v.late (physical_now v) v.pending.receipts
      ≡ word_of (before v.book.mark v.book.events)
  -- a late one has no anti-message and no physical checkpoint before its mark
  pub untouched : v.late ≡ true → v.logical ≡ false → (v.pending.receipts ≡ []) × (v.saved ≡ false)
  pub counted : v.count ≡ v.pending.count

abbrev pub ProcessIn : Bool → Phase → ℕ → Process → Type 0
ProcessIn t Idle p v = Unmarked t v
ProcessIn t (Physical next) p v = PhysicalProcess t next p v
ProcessIn t Logical p v = LogicalProcess t v

pub record ProcessHolds (t : Bool) (phase : Phase) (p : ℕ) (v : Process) : Type 0 where
  -- its word is what its receives made
  pub now : v.word ≡ word_of v.book.events
  -- the finished slot has its word at the line
  pub within : v.book.place ≤ length v.book.events
  pub finished : restore v.late v.finished.physical v.finished.receipts
      ≡ word_of (take v.book.place v.book.events)
  pub fits : v.finished.count ≤ message_places
  pub round : ProcessIn t phase p v

-- outside the logical phase a channel has messages alone, with the tag that all have
abbrev pub Plain : Bool → Channel → Type 0
Plain t v = v.entries ≡ messages t (bodies v.entries)

-- The physical phase: its log is empty.
pub record PhysicalChannel (t : Bool) (v : Channel) : Type 0 where
  pub plain : Plain t v
  pub empty : v.count ≡ 0
  pub counted : v.count ≡ v.pending.count

-- The logical phase: it balances (ChannelState).
pub record LogicalChannel (t : Bool) (v : Channel) : Type 0 where
  pub balanced : Balanced t v.sender v.receiver v.sent v.closed v.entries v.pending.bodies
      v.out.mark v.arrived.mark
  pub counted : Counted t v.receiver v.entries v.count v.pending.count

abbrev pub ChannelIn : Bool → Phase → Channel → Type 0
ChannelIn t Idle v = Plain t v
ChannelIn t (Physical next) v = PhysicalChannel t v
ChannelIn t Logical v = LogicalChannel t v

pub record ChannelHolds (t : Bool) (phase : Phase) (v : Channel) : Type 0 where
  -- what was sent was received or is on it
  pub now : v.out.all ≡ v.arrived.all ++ bodies v.entries
  -- what was sent up to the line was received up to it or is in its log
  pub finished : v.out.line ≡ v.arrived.line ++ v.finished.bodies
  pub fits : v.finished.count ≤ channel_places
  pub round : ChannelIn t phase v

-- All of it, by the state's own topology and line.
pub record Inv (s : GlobalState) (st : List ℕ) (h : History) : Type 0 where
  pub sized : Sized present s.topology st
  pub stored : cell st line_cell ≡ s.round.line
  pub tag : Bool
  pub processes : (p : ℕ) → p < s.topology.processes → ProcessHolds tag s.round.phase p (process_at s st h p)
  pub channels : (c : ℕ) → c < s.topology.channels → ChannelHolds tag s.round.phase (channel_at s st h c)

-- the ends of the topology's channels are among its processes
abbrev pub EndsPlanned : Topology → Type 0
EndsPlanned T = (c : ℕ) → c < T.channels → (sender T c < T.processes) × (receiver T c < T.processes)

-- a step with this result and with power keeps it
abbrev pub KeepsBy : GlobalState → List ℕ → History → Step → Result → Type 0
KeepsBy s st h x r = Inv r.state (write_all st r.writes) (on_step s.topology x (heard r.outcome) h)

-- and so does one that loses the power after b of its writes, with the state and the histories as they were
abbrev pub KeepsLostBy : GlobalState → List ℕ → History → Result → Type 0
KeepsLostBy s st h r = (b : ℕ) → b < length r.writes → Inv s (write_all st (take b r.writes)) h

-- an accepted step keeps it, whether the power lasts or not
pub record Keeps (s : GlobalState) (st : List ℕ) (h : History) (x : Step) : Type 0 where
  pub lasts : KeepsBy s st h x (effect s x)
  pub lost : KeepsLostBy s st h (effect s x)
