-- A marker sent keeps the invariant: it joins the new entries of its channel, and no body moves.
use Prim.Native.Nat.{ℕ, ◌<◌}
use mathlib.Core.Path.{◌≡◌, sym, ap, subst, ◌∙◌}
use mathlib.Core.Bool.{Bool, true, false}
use mathlib.Core.List.{List, [], ◌∷◌, ◌++◌, append-nil}
use Rattle.model.specs.declared.Phase.{Phase}
use Rattle.model.specs.declared.Phase.TheVariants.{Logical}
use Rattle.model.specs.declared.Entry.{Entry}
use Rattle.model.specs.declared.Entry.TheVariants.{Marker}
use Rattle.model.specs.declared.Step.TheVariants.{SendMarker}
use Rattle.model.specs.Channel.{bodies}
use Rattle.model.specs.State.{GlobalState}
use Rattle.model.specs.Change.{record_sent, set_entries, with_channel, with_progress, with_sent}
use Rattle.model.specs.Write.{write_all}
use Rattle.model.specs.Step.{effect, quietly}
use Rattle.model.specs.History.{History, on_step, on_accepted}
use Rattle.model.proofs.laws.Functions.{by_index, upd_same, upd_other}
use Rattle.model.proofs.laws.ChannelLaws.{bodies_append}
use Rattle.model.proofs.laws.Passing.{MaySendMarker}
use Rattle.model.proofs.line.Values.{Channel, channel_at}
use Rattle.model.proofs.line.ChannelState.{send_marker}
use Rattle.model.proofs.line.Counted.{counted_longer}
use Rattle.model.proofs.line.Invariant.{ChannelHolds, Inv, KeepsBy}
use Rattle.model.proofs.line.Phases.{is_logical_lem, channel_in}

-- a channel with the marker at its end
abbrev marked : Channel → Channel
marked v =
    record {
      entries = v.entries ++ (Marker ∷ []);
      sent = true;
      closed = v.closed;
      sender = v.sender;
      receiver = v.receiver;
      count = v.count;
      out = v.out;
      arrived = v.arrived;
      finished = v.finished;
      pending = v.pending;
    }

channel_marked : {t : Bool} {v : Channel} → v.sender ≡ true → v.sent ≡ false → ChannelHolds t Logical v
    → ChannelHolds t Logical (marked v)
unfolding bodies
channel_marked {v = v} a z i =
    record {
      now =
          i.now
          ∙ ap (λ (l : List ℕ). v.arrived.all ++ l) (sym (bodies_append v.entries (Marker ∷ []) ∙ append-nil _));
      finished = i.finished;
      fits = i.fits;
      round =
          record { balanced = send_marker a z i.round.balanced; counted = counted_longer _ i.round.counted };
    }

module _ (s : GlobalState) (st : List ℕ) (h : History) (c : ℕ) (may : MaySendMarker s c) (i : Inv s st h) where
  abbrev longer : List Entry
  longer = s.channel c ++ (Marker ∷ [])

  abbrev after : GlobalState
  after = record_sent c (set_entries c longer s)

  phase : s.round.phase ≡ Logical
  phase = is_logical_lem s.round.phase may.phase

  channels : (d : ℕ) → d < s.topology.channels → ChannelHolds i.tag Logical (channel_at after st h d)
  unfolding record_sent set_entries with_channel with_progress with_sent
  channels =
      by_index (λ d. d < s.topology.channels → ChannelHolds i.tag Logical (channel_at after st h d)) c
      (λ k.
      rw (upd_same s.channel c longer, upd_same s.progress.sent c true)
      (channel_marked may.sender may.unsent (channel_in i phase c k)))
      (λ d n k.
      rw (upd_other s.channel c d longer n, upd_other s.progress.sent c d true n) (channel_in i phase d k))

  pub marker_kept : KeepsBy s st h (SendMarker c) (effect s (SendMarker c))
  unfolding effect quietly record_sent set_entries with_channel with_progress with_sent write_all on_step on_accepted
  marker_kept =
      record {
        sized = i.sized;
        stored = i.stored;
        tag = i.tag;
        processes = i.processes;
        channels =
            λ d k. subst (λ (ph : Phase). ChannelHolds i.tag ph (channel_at after st h d)) (sym phase) (channels d k);
      }
