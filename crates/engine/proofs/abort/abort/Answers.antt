-- `engine::abort::abort` meets its contract: refused where no round is under way, else all is set back but the counts.
use Rattle.std.proofs.Common.{◌≡◌, cond, sym, refl, ap, ◌∙◌}
use mathlib.Core.Option.{none, some}
use Rattle.model.specs.declared.Step.TheVariants.{Abort}
use Rattle.model.specs.Outcome as says
use Rattle.model.specs.Check.{first_refusal}
use Rattle.model.specs.Phase.{is_idle}
use Rattle.model.specs.State.{GlobalState}
use Rattle.model.specs.Change.{end_round, with_round, with_progress, with_tag, with_channel}
use Rattle.model.specs.Step.{prior_checks, room_checks, log_checks, own_checks, effect, quietly}
use Rattle.engine.specs.declared.spot.Spot.{Spot}
use Rattle.engine.specs.Spots.{Sees, put_back}
use Rattle.engine.proofs.Views.{same_state}
use Rattle.engine.proofs.Turning.{quiet_refused, quiet_went, same_word, same_counts}
use Rattle.engine.proofs.abort.abort.Goals as goal

-- what the model has for a state seen so
module _ (s : Spot) (g : GlobalState) (v : Sees g Abort s) where
  checks : first_refusal (own_checks g Abort) ≡ cond (is_idle s.round.phase) (some 12) none
  unfolding own_checks prior_checks room_checks log_checks first_refusal
  checks = rw v.round

pub returns-then-is_idle : goal.returns-then-is_idle
returns-then-is_idle c =
    quiet_refused _ _ _ (λ g v. checks _ g v ∙ rw (← c.is_idle.ensures, c.if-is_idle.true))

pub returns : goal.returns
unfolding effect put_back end_round with_round with_progress with_tag with_channel
returns c =
    quiet_went _ _ _ refl refl
    (λ g v. checks _ g v ∙ rw (← c.is_idle.ensures, c.if-is_idle.false))
    (λ g v. rw v.round
    (ap (quietly says.done) (same_state refl refl (sym (same_word v)) refl refl refl (sym (same_counts v)))))
