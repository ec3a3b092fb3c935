-- What a receive makes of each part of the state, by what the entry does to its receiver.
use Prim.Native.Nat.{ℕ}
use mathlib.Core.Path.{◌≡◌, refl}
use mathlib.Core.Bool.{Bool, true, false, cond, not}
use mathlib.Core.List.{List, ◌∷◌}
use Rattle.model.specs.declared.Receiver.{Receiver}
use Rattle.model.specs.declared.Phase.{Phase}
use Rattle.model.specs.declared.Phase.TheVariants.{Idle, Physical, Logical}
use Rattle.model.specs.declared.Entry.{Entry}
use Rattle.model.specs.declared.Entry.TheVariants.{Message, Marker}
use Rattle.model.specs.Notation.{upd}
use Rattle.model.specs.Topology.{receiver}
use Rattle.model.specs.Layout.{Log}
use Rattle.model.specs.State.{GlobalState, raised_all}
use Rattle.model.specs.Change.{with_word, with_tag, with_channel, with_progress, with_counts, with_logical, with_closed}
use Rattle.model.specs.Change.{set_entries, enter_message, logical_checkpoint, close}
use Rattle.model.specs.Receive.{Reaction, logs_only, reaction_to}
use Rattle.model.specs.Step.{reaction, react, receive}

-- s after an entry of channel c with reaction x went to its receiver r: the channel has these entries left, and the
-- words are w's
abbrev pub after_receive : Reaction → ℕ → ℕ → List Entry → (ℕ → ℕ) → GlobalState → GlobalState
after_receive x c r es w s =
    record {
      topology = s.topology;
      round = s.round;
      word = w;
      tag = cond x.logical_first (upd s.tag r (not (s.tag r))) s.tag;
      channel = upd s.channel c es;
      progress =
          record {
            logical = cond x.logical_first (upd s.progress.logical r true) s.progress.logical;
            saved = s.progress.saved;
            closed = cond x.closes (upd s.progress.closed c true) s.progress.closed;
            sent = s.progress.sent;
          };
      counts = raised_all x.logs s.counts;
    }

module _ (s : GlobalState) (c r : ℕ) (es : List Entry) where
  entered : Reaction → Entry → GlobalState
  entered x e = enter_message c r e (set_entries c es (react x c r s))

  reacted : (first closes : Bool) (logs : List Log) (e : Entry)
      → let x : Reaction = record { logical_first = first; closes = closes; logs = logs } in
      entered x e ≡ after_receive x c r es (entered x e).word s
  unfolding entered react close logical_checkpoint enter_message set_entries with_word with_tag with_channel
      with_progress with_counts with_logical with_closed
  reacted true true logs (Message b t) = refl
  reacted true true logs Marker = refl
  reacted true false logs (Message b t) = refl
  reacted true false logs Marker = refl
  reacted false true logs (Message b t) = refl
  reacted false true logs Marker = refl
  reacted false false logs (Message b t) = refl
  reacted false false logs Marker = refl

-- the first entry of channel c received
pub receive_takes : (s : GlobalState) (c : ℕ) (e : Entry) (es : List Entry)
    → let y : GlobalState = (receive s c (e ∷ es)).state in
    y ≡ after_receive (reaction s c e) c (receiver s.topology c) es y.word s
unfolding receive entered
receive_takes s c e es =
    let x : Reaction = reaction s c e in
    reacted s c (receiver s.topology c) es x.logical_first x.closes x.logs e

-- a message closes no channel
pub message_open : (phase : Phase) (c : ℕ) (r : Receiver) (b : ℕ) (t : Bool)
    → (reaction_to phase c r (Message b t)).closes ≡ false
unfolding reaction_to logs_only
message_open Idle c r b t = refl
message_open (Physical next) c r b t = refl
message_open Logical c r b t = refl
