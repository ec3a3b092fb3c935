-- `engine::send_marker::send_marker` meets its contract, in each of its cases.
use Rattle.std.proofs.Common.{◌≡◌, Bool, true, false, cond, not, ◌&&◌, sym, refl, ap, ◌∙◌}
use mathlib.Core.Option.{none, some}
use Rattle.model.specs.declared.Step.TheVariants.{SendMarker}
use Rattle.model.specs.Outcome as says
use Rattle.model.specs.Check.{first_refusal}
use Rattle.model.specs.Topology.{sender, has_channel}
use Rattle.model.specs.Phase.{is_logical}
use Rattle.model.specs.Channel.{entries, no_room_for_marker}
use Rattle.model.specs.State.{GlobalState}
use Rattle.model.specs.Change.{set_entries, record_sent, with_channel, with_progress, with_sent}
use Rattle.model.specs.Step.{may_send_marker, prior_checks, room_checks, log_checks, own_checks, effect, quietly}
use Rattle.rules.proofs.Room.{marker_pushed}
use Rattle.engine.specs.declared.spot.Spot.{Spot}
use Rattle.engine.specs.Spots.{Sees, put_back}
use Rattle.engine.proofs.Views.{same_state}
use Rattle.engine.proofs.Turning.{Found, found, quiet_refused, quiet_went}
use Rattle.engine.proofs.Turning.{same_flags, same_word, same_tag, same_logical, same_saved, same_closed}
use Rattle.engine.proofs.Turning.{same_counts}
use Rattle.engine.proofs.send_marker.send_marker.Goals as goal

-- what the spot says of it
abbrev may : Spot → Bool
may s = is_logical s.round.phase && s.logical && not s.sent

-- what the model has for a state seen so
module _ (s : Spot) (g : GlobalState) (v : Sees g (SendMarker s.channel) s) where
  here : Found (has_channel g.topology s.channel) s.channel (sender g.topology s.channel) s.channel
      s.process
  here = found _ _ _ _ _ v.subject

  decided : may_send_marker g s.channel ≡ may s
  unfolding may_send_marker
  decided = rw (here.process, v.round, v.logical, v.sent)

  not_now_lem : may s ≡ false → first_refusal (own_checks g (SendMarker s.channel)) ≡ some 12
  unfolding own_checks prior_checks room_checks log_checks first_refusal
  not_now_lem e = rw (here.holds, decided, e)

  own : {full : Bool} → may s ≡ true → no_room_for_marker (entries s.held) ≡ full
      → first_refusal (own_checks g (SendMarker s.channel)) ≡ cond full (some 9) none
  unfolding own_checks prior_checks room_checks log_checks first_refusal
  own e k = rw (here.holds, decided, e, v.held, k)

pub returns-then-not-may : goal.returns-then-not-may
returns-then-not-may c = quiet_refused _ _ _ (λ g v. not_now_lem _ g v (rw (← c.is_logical.ensures) c.if-not-may.true))

pub returns-then-no_room_for_marker : goal.returns-then-no_room_for_marker
returns-then-no_room_for_marker c =
    quiet_refused _ _ _
    (λ g v. own _ g v (rw (← c.is_logical.ensures) c.if-not-may.false)
    (sym c.no_room_for_marker.ensures ∙ c.if-no_room_for_marker.true))

pub returns : goal.returns
unfolding effect put_back set_entries record_sent with_channel with_progress with_sent
returns c =
    let room : no_room_for_marker (entries c.args.s.held) ≡ false =
    sym c.no_room_for_marker.ensures ∙ c.if-no_room_for_marker.false in
    rw c.new.ensures
    (quiet_went _ _ _ refl refl (λ g v. own _ g v (rw (← c.is_logical.ensures) c.if-not-may.false) room)
    (λ g v. rw (v.held, ← (c.push-s.ensures ∙ marker_pushed _ _ room))
    (ap (quietly says.done)
    (same_state refl v.round (sym (same_word v)) (sym (same_tag v)) refl
    (same_flags (sym (same_logical v)) (sym (same_saved v)) (sym (same_closed v)) refl) (sym (same_counts v))))))
