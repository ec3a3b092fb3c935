-- `engine::logical_checkpoint::logical_checkpoint` meets its contract, in each of its cases.
use Rattle.std.proofs.Common.{◌≡◌, Bool, cond, not, ◌&&◌, ◌||◌, eqb, sym, refl, ap, ◌∙◌}
use mathlib.Core.Option.{none, some}
use Rattle.model.specs.declared.Step.TheVariants.{LogicalCheckpoint}
use Rattle.model.specs.Outcome as says
use Rattle.model.specs.Check.{first_refusal}
use Rattle.model.specs.Topology.{has_process}
use Rattle.model.specs.Phase.{is_logical}
use Rattle.model.specs.State.{GlobalState}
use Rattle.model.specs.Change.{logical_checkpoint, with_tag, with_progress, with_logical}
use Rattle.model.specs.Step.{may_checkpoint_logically, prior_checks, room_checks, log_checks, own_checks, effect}
use Rattle.model.specs.Step.{quietly}
use Rattle.engine.specs.declared.spot.Spot.{Spot}
use Rattle.engine.specs.Spots.{Sees, put_back}
use Rattle.engine.proofs.Views.{same_state}
use Rattle.engine.proofs.Turning.{Found, found, quiet_refused, quiet_went}
use Rattle.engine.proofs.Turning.{same_flags, same_word, same_channel, same_saved, same_closed, same_sent}
use Rattle.engine.proofs.Turning.{same_counts}
use Rattle.engine.proofs.logical_checkpoint.logical_checkpoint.Goals as goal

-- what the spot says of it
abbrev may : Spot → Bool
may s = is_logical s.round.phase && not s.logical && (eqb s.process 0 || s.first)

-- what the model has for a state seen so
module _ (s : Spot) (g : GlobalState) (v : Sees g (LogicalCheckpoint s.process) s) where
  here : Found (has_process g.topology s.process) 0 s.process s.channel s.process
  here = found _ _ _ _ _ v.subject

  decided : may_checkpoint_logically g s.process ≡ may s
  unfolding may_checkpoint_logically
  decided = rw (v.round, v.logical, v.first)

  checks : first_refusal (own_checks g (LogicalCheckpoint s.process)) ≡ cond (not (may s)) (some 12) none
  unfolding own_checks prior_checks room_checks log_checks first_refusal
  checks = rw (here.holds, decided)

pub returns-then-not-may : goal.returns-then-not-may
returns-then-not-may c = quiet_refused _ _ _ (λ g v. checks _ g v ∙ rw (← c.is_logical.ensures, c.if-not-may.true))

pub returns : goal.returns
unfolding effect put_back logical_checkpoint with_tag with_progress with_logical
returns c =
    rw c.new.ensures
    (quiet_went _ _ _ refl refl (λ g v. checks _ g v ∙ rw (← c.is_logical.ensures, c.if-not-may.false))
    (λ g v. rw v.tag
    (ap (quietly says.done)
    (same_state refl v.round (sym (same_word v)) refl (sym (same_channel v))
    (same_flags refl (sym (same_saved v)) (sym (same_closed v)) (sym (same_sent v))) (sym (same_counts v))))))
