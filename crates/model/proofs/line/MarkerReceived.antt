-- A marker that is received: there is none but in the logical phase, and its channel is closed after it.
use Prim.Native.Nat.{ℕ, ◌<◌}
use mathlib.Core.Path.{◌≡◌, sym, ap}
use mathlib.Core.Bool.{Bool, true}
use mathlib.Core.List.{List, ◌∷◌}
use Rattle.model.specs.declared.Phase.TheVariants.{Logical}
use Rattle.model.specs.declared.Entry.{Entry}
use Rattle.model.specs.declared.Entry.TheVariants.{Marker}
use Rattle.model.specs.Topology.{receiver}
use Rattle.model.specs.Channel.{bodies, markerless, messages}
use Rattle.model.specs.State.{GlobalState}
use Rattle.model.specs.Change.{set_entries, with_channel}
use Rattle.model.specs.Change.{with_progress, with_closed, close}
use Rattle.model.specs.History.{History}
use Rattle.model.proofs.laws.Tests.{true_is_not_false}
use Rattle.model.proofs.laws.Functions.{by_index, upd_same, upd_other}
use Rattle.model.proofs.laws.ChannelLaws.{messages_markerless}
use Rattle.model.proofs.line.ChannelState.{receive_marker}
use Rattle.model.proofs.line.Counted.{exact, counted_marker}
use Rattle.model.proofs.line.Values.{Channel, channel_at}
use Rattle.model.proofs.line.Invariant.{ChannelHolds, Inv}
use Rattle.model.proofs.line.Phases.{channel_in}

-- plain entries have no marker
pub no_marker : {X : Type 0} (t : Bool) (bs : List ℕ) (es : List Entry) → Marker ∷ es ≡ messages t bs → X
unfolding markerless
no_marker t bs es e = true_is_not_false (messages_markerless t bs) (ap markerless (sym e))

-- a channel with its marker received
abbrev shut : List Entry → Channel → Channel
shut es v =
    record {
      entries = es;
      sent = v.sent;
      closed = true;
      sender = v.sender;
      receiver = v.receiver;
      count = v.count;
      out = v.out;
      arrived = v.arrived;
      finished = v.finished;
      pending = v.pending;
    }

channel_shut : {t : Bool} {v : Channel} (es : List Entry) → v.entries ≡ Marker ∷ es → v.receiver ≡ true
    → ChannelHolds t Logical v → ChannelHolds t Logical (shut es v)
unfolding bodies
channel_shut {v = v} es first r i =
    record {
      now = rw first at i.now;
      finished = i.finished;
      fits = i.fits;
      round =
          record {
            balanced = rw r (receive_marker (rw first at i.round.balanced));
            counted = exact (counted_marker (rw first at i.round.counted));
          };
    }

-- the marker, with a receiver that has its logical checkpoint
pub marker_received : (s : GlobalState) (st : List ℕ) (h : History) (i : Inv s st h) (c : ℕ) (es : List Entry)
    → s.round.phase ≡ Logical → s.progress.logical (receiver s.topology c) ≡ true → s.channel c ≡ Marker ∷ es
    → Inv (set_entries c es (close c s)) st h
unfolding set_entries with_channel close with_progress with_closed
marker_received s st h i c es phase flag first =
    record {
      sized = i.sized;
      stored = i.stored;
      tag = i.tag;
      processes = i.processes;
      channels =
          by_index (λ d. d < s.topology.channels
          → ChannelHolds i.tag s.round.phase (channel_at (set_entries c es (close c s)) st h d)) c
          (λ k.
          rw (phase, upd_same s.channel c es, upd_same s.progress.closed c true)
          (channel_shut es first flag (channel_in i phase c k)))
          (λ d o k.
          rw (upd_other s.channel c d es o, upd_other s.progress.closed c d true o) (i.channels d k));
    }
