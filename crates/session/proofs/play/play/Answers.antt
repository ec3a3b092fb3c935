use Rattle.std.proofs.Common.{refl, sym, ap, ◌∙◌}
use Rattle.model.specs.Outcome.{refusal_of}
use Rattle.plan.proofs.PlanReads.{plan_refusal_lem, plan_read}
use Rattle.session.proofs.Opening.{plays_refused, plays_read, few_records}
use Rattle.session.proofs.play.play.Goals as goal

pub run-requires : goal.run-requires
run-requires c =
    record {
      accepted = (plan_read _ _ c.read.ensures c.in-Ok.is).accepted;
      taken = few_records c.args.input.now c.taken-bytes.ensures c.rest.ensures;
      cells = c.requires;
    }

pub returns-in-Ok : goal.returns-in-Ok
returns-in-Ok c =
    plays_read _ _ _ c.taken-bytes.ensures (plan_read _ _ c.read.ensures c.in-Ok.is) c.rest.ensures c.run.ensures

pub returns-in-Err : goal.returns-in-Err
unfolding refusal_of
returns-in-Err c =
    plays_refused _ _ _ c.taken-bytes.ensures
    (sym (plan_refusal_lem c.read.result _ c.read.ensures) ∙ ap refusal_of c.in-Err.is) refl c.plan_refused.ensures
