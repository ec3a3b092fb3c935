use Rattle.std.proofs.Common.{◌≡◌, ◌∙◌, rules}
use Rattle.std.specs.Prelude.{Err}
use borrow.Author.Tests.{eq-eqb, ne_eqb}
use Rattle.model.specs.Outcome.{refusal_of}
use Rattle.operator.specs.declared.refused.Refused.TheVariants.{Other}
use Rattle.operator.specs.Carrying.{carried_answer}
use Rattle.operator.proofs.Carrying.{ends_plan, ends_broken, ends_carried}
use Rattle.operator.proofs.carry.carry.Goals as goal

pub returns-in_err-topology : goal.returns-in_err-topology
returns-in_err-topology c =
    let same : c.from_residual.result ≡ Err c.in_err-topology.field-0.0 = search rules in
    rw same (c.in_err-topology.ensures.told ∙ ends_plan _ _ _ _ c.in_err-topology.ensures.checks)

pub returns-then-rest-ne0 : goal.returns-then-rest-ne0
returns-then-rest-ne0 c =
    ends_broken _ _ _ _ c.in_ok-topology.ensures.checks c.rest-rest.ensures (ne_eqb _ _ c.if-rest-ne0.true)

pub returns-in_err-carried : goal.returns-in_err-carried
unfolding carried_answer refusal_of
returns-in_err-carried c =
    let same : c.from_residual-in_err-carried.result ≡ Err (Other c.in_err-carried.field-0.0) = search rules in
    let plan = c.in_ok-topology.ensures in
    rw same
    (ends_carried _ _ _ _ plan.checks c.rest-rest.ensures (eq-eqb _ _ c.if-rest-ne0.false) plan.plan c.read-2.ensures
    c.in_err-carried.ensures)

pub returns : goal.returns
unfolding carried_answer refusal_of
returns c =
    let plan = c.in_ok-topology.ensures in
    ends_carried _ _ _ _ plan.checks c.rest-rest.ensures (eq-eqb _ _ c.if-rest-ne0.false) plan.plan c.read-2.ensures
    c.in_ok-carried.ensures
