-- Document 01's two paragraphs on Take: what an entry does to its receiver as it is received. Whether it gives the
-- receiver its logical checkpoint first, whether it closes its channel, and which logs it goes into, is decided
-- here and nowhere else: what turns a receive down and what it changes both follow from it.
use Rattle.std.specs.Prelude.{ℕ, Bool, true, false, cond, not, ◌&&◌, ◌||◌, List, [], ◌∷◌, ◌++◌, leb, ltb}
use Rattle.std.specs.Bool.{beq}
use Rattle.model.specs.declared.Phase.{Phase}
use Rattle.model.specs.declared.Phase.TheVariants.{Idle, Physical, Logical}
use Rattle.model.specs.declared.Receiver.{Receiver}
use Rattle.model.specs.declared.Entry.{Entry}
use Rattle.model.specs.declared.Entry.TheVariants.{Message, Marker}
use Rattle.model.specs.Topology.{is_late}
use Rattle.model.specs.Layout.{Log, message_log, channel_log, places}
use Rattle.model.specs.State.{GlobalState, LogCounts, count_of}

pub record Reaction : Type 0 where
  pub logical_first : Bool
  pub closes : Bool
  pub logs : List Log

-- no logical checkpoint, and the channel stays open
unfoldable pub logs_only : List Log → Reaction
logs_only logs = record { logical_first = false; closes = false; logs = logs }

-- the log, if it is needed
abbrev pub log_if : Bool → Log → List Log
log_if needed log = cond needed (log ∷ []) []

-- Whether a message received in the logical phase goes into its receiver's message log; logical: whether the receiver
-- has its logical checkpoint by then (is marked). An early one: before that. A late one, document 02, M-105: "Its takes
-- before the mark go into no log. Between mark and copy, the take that marks it included, every message taken is logged
-- in its board log as an anti-message of body and wire (002, approach 3)"
unfoldable pub in_message_log : (late logical saved : Bool) → Bool
in_message_log false logical saved = not logical
in_message_log true logical saved = logical && not saved

-- What an entry of channel c does to its receiver r, in this phase.
unfoldable pub reaction_to : Phase → ℕ → Receiver → Entry → Reaction
-- "Take, outside marking: tags aren't looked at and a note is merely removed."
reaction_to Idle c r e = logs_only []
reaction_to (Physical next) c r Marker = logs_only []
-- "In copying, a copied receiver logs the body in its board log": a late one isn't copied then
reaction_to (Physical next) c r (Message b t) =
    logs_only (log_if (ltb r.process next && not r.late) (message_log r.process))
-- "Take, in marking: a note first marks an unmarked receiver, then closes the wire."
reaction_to Logical c r Marker = record { logical_first = not r.logical; closes = true; logs = [] }
-- "A message whose tag differs from an unmarked receiver's marks it first and isn't logged. With equal tags, an
-- unmarked receiver logs in its board log, a marked one logs nothing. With a different tag, a marked receiver logs in
-- the wire log": so for an early receiver. Of the board log of a late one in_message_log decides by M-105, and what
-- goes there goes "after any wire log entry, whose place is checked first".
reaction_to Logical c r (Message b t) =
    let differs : Bool = not (beq t r.tag) in
    record {
      logical_first = not r.logical && differs;
      closes = false;
      logs =
          log_if (r.logical && differs) (channel_log c)
          ++ log_if (in_message_log r.late (r.logical || differs) r.saved) (message_log r.process);
    }

-- process r as a receiver, as the state stands
abbrev pub receiver_at : GlobalState → ℕ → Receiver
receiver_at s r =
    record {
      process = r;
      late = is_late s.topology r;
      logical = s.progress.logical r;
      saved = s.progress.saved r;
      tag = s.tag r;
    }

-- "11 the log needed is full": one of those needed, by the state's counts
unfoldable pub any_full : LogCounts → List Log → Bool
any_full counts [] = false
any_full counts (log ∷ logs) = leb (places log) (count_of counts log) || any_full counts logs
