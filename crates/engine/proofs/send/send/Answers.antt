-- `engine::send::send` meets its contract, in each of its cases.
use Rattle.std.proofs.Common.{◌≡◌, ℕ, Bool, true, false, cond, [], ◌∷◌, ◌++◌, sym, refl, ap, ◌∙◌, rules}
use mathlib.Core.Option.{none, some}
use Rattle.model.specs.declared.Entry.TheVariants.{Message}
use Rattle.model.specs.declared.Step.TheVariants.{Send}
use Rattle.model.specs.Outcome as says
use Rattle.model.specs.Check.{first_refusal}
use Rattle.model.specs.Topology.{sender, has_channel}
use Rattle.model.specs.Channel.{entries, room_left, no_room_for_message}
use Rattle.model.specs.State.{GlobalState}
use Rattle.model.specs.Change.{set_entries, with_channel}
use Rattle.model.specs.Step.{prior_checks, room_checks, log_checks, own_checks, effect, quietly}
use Rattle.rules.proofs.Room.{message_pushed}
use Rattle.engine.specs.declared.spot.Spot.{Spot}
use Rattle.engine.specs.Spots.{Sees, put_back}
use Rattle.engine.proofs.Views.{same_state}
use Rattle.engine.proofs.Turning.{Found, found, quiet_refused, quiet_went}
use Rattle.engine.proofs.Turning.{same_word, same_tag, same_progress, same_counts}
use Rattle.engine.proofs.send.send.Goals as goal

-- what the model has for a state seen so
module _ (s : Spot) (b : ℕ) (g : GlobalState) (v : Sees g (Send s.channel b) s) where
  here : Found (has_channel g.topology s.channel) s.channel (sender g.topology s.channel) s.channel
      s.process
  here = found _ _ _ _ _ v.subject

  own : {full : Bool} → no_room_for_message (entries s.held) ≡ full
      → first_refusal (own_checks g (Send s.channel b)) ≡ cond full (some 9) none
  unfolding own_checks prior_checks room_checks log_checks first_refusal
  own k = rw (here.holds, v.held, k)

pub returns-then-no_room_for_message : goal.returns-then-no_room_for_message
returns-then-no_room_for_message c = quiet_refused _ _ _ (λ g v. own _ _ g v {full = true} (search rules))

pub returns : goal.returns
unfolding effect put_back set_entries with_channel
returns c =
    let s = c.args.s in
    let b = c.args.body in
    let room : no_room_for_message (entries s.held) ≡ false = search rules in
    let put : entries c.push-held.result ≡ entries s.held ++ (Message b s.tag ∷ []) =
    c.push-held.ensures ∙ message_pushed _ _ room in
    let told : c.room-room.result ≡ room_left (entries c.push-held.result) = c.room-room.ensures in
    rw c.new.ensures
    (quiet_went _ _ _ refl refl (λ g v. own s b g v room)
    (λ g v. rw ((here s b g v).process, v.held, v.tag, ← put, ← told)
    (ap (quietly (says.sent c.room-room.result))
    (same_state refl v.round (sym (same_word v)) (sym (same_tag v)) refl (sym (same_progress v))
    (sym (same_counts v))))))
