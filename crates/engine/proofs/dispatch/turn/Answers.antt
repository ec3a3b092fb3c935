-- `engine::dispatch::turn`: each arm hands on what its step's function promises.
use Rattle.std.proofs.Common.{◌≡◌, ℕ, ap, ◌∙◌, subst}
use Rattle.model.specs.declared.Step.{Step}
use Rattle.model.specs.declared.Step.TheVariants.{Send, LogicalCheckpoint, SendMarker}
use Rattle.engine.specs.declared.spot.Spot.{Spot}
use Rattle.engine.specs.Spots.{Seen}
use Rattle.engine.proofs.Turning.{found_sending, found_process, quiet_done, quiet_stops}
use Rattle.engine.proofs.dispatch.turn.Goals as goal

-- the step that is known is the spot's
module _ {s : Spot} {x : Step} (seen : Seen x s) where
  seen_as : {y : Step} → x ≡ y → Seen y s
  seen_as e = subst (λ (z : Step). Seen z s) e seen

  sends : {c b : ℕ} → x ≡ Send c b → x ≡ Send s.channel b
  sends {c} {b} e = e ∙ ap (λ (n : ℕ). Send n b) (found_sending _ c (seen_as e).sees.subject).channel

  marks : {p : ℕ} → x ≡ LogicalCheckpoint p → x ≡ LogicalCheckpoint s.process
  marks {p} e = e ∙ ap LogicalCheckpoint (found_process _ p (seen_as e).sees.subject).process

  notes : {c : ℕ} → x ≡ SendMarker c → x ≡ SendMarker s.channel
  notes {c} e = e ∙ ap SendMarker (found_sending _ c (seen_as e).sees.subject).channel

pub returns-in_err-send-in-Send : goal.returns-in_err-send-in-Send
returns-in_err-send-in-Send c =
    quiet_stops _ _ _ _ _ c.from_residual.ensures.1 (sends c.requires.0 c.in-Send.is) c.in_err-send-in-Send.ensures

pub returns-in_ok-send-in-Send : goal.returns-in_ok-send-in-Send
returns-in_ok-send-in-Send c = quiet_done _ _ _ _ (sends c.requires.0 c.in-Send.is) c.in_ok-send-in-Send.ensures

pub returns-in_err-logical_checkpoint-in-LogicalCheckpoint : goal.returns-in_err-logical_checkpoint-in-LogicalCheckpoint
returns-in_err-logical_checkpoint-in-LogicalCheckpoint c =
    quiet_stops _ _ _ _ _ (c.from_residual-in_err-logical_checkpoint-in-LogicalCheckpoint).ensures.1
    (marks c.requires.0 c.in-LogicalCheckpoint.is) c.in_err-logical_checkpoint-in-LogicalCheckpoint.ensures

pub returns-in_ok-logical_checkpoint-in-LogicalCheckpoint : goal.returns-in_ok-logical_checkpoint-in-LogicalCheckpoint
returns-in_ok-logical_checkpoint-in-LogicalCheckpoint c =
    quiet_done _ _ _ _ (marks c.requires.0 c.in-LogicalCheckpoint.is)
    c.in_ok-logical_checkpoint-in-LogicalCheckpoint.ensures

pub returns-in_err-send_marker-in-SendMarker : goal.returns-in_err-send_marker-in-SendMarker
returns-in_err-send_marker-in-SendMarker c =
    quiet_stops _ _ _ _ _ c.from_residual-in_err-send_marker-in-SendMarker.ensures.1
    (notes c.requires.0 c.in-SendMarker.is) c.in_err-send_marker-in-SendMarker.ensures

pub returns-in_ok-send_marker-in-SendMarker : goal.returns-in_ok-send_marker-in-SendMarker
returns-in_ok-send_marker-in-SendMarker c =
    quiet_done _ _ _ _ (notes c.requires.0 c.in-SendMarker.is) c.in_ok-send_marker-in-SendMarker.ensures

pub returns-in_err-abort-in-Abort : goal.returns-in_err-abort-in-Abort
returns-in_err-abort-in-Abort c =
    quiet_stops _ _ _ _ _ c.from_residual-in_err-abort-in-Abort.ensures.1 c.in-Abort.is c.in_err-abort-in-Abort.ensures

pub returns-in_ok-abort-in-Abort : goal.returns-in_ok-abort-in-Abort
returns-in_ok-abort-in-Abort c = quiet_done _ _ _ _ c.in-Abort.is c.in_ok-abort-in-Abort.ensures
