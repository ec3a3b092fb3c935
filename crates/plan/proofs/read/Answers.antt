-- `read`: the shape is refused. (That 3 to 5 or 19 are, and that the plan passes, the check finds by `checks`.)
use Rattle.std.proofs.Common.{rules}
use Rattle.std.proofs.Math.Option.{or_else}
use Rattle.model.specs.Outcome.{refusal_of}
use Rattle.model.specs.Program.{plan_refusal}
use Rattle.plan.specs.PlanRead.{plan_or, plan_in}
use Rattle.plan.proofs.read.Goals as goal

pub returns-in_err-check : goal.returns-in_err-check
unfolding refusal_of plan_refusal or_else plan_in plan_or
returns-in_err-check c = rw (← c.check.ensures, c.in_err-check.was) (search rules)
