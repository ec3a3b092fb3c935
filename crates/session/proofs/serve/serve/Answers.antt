use Rattle.model.specs.Program.{serve}
use Rattle.session.proofs.Serving.{step_served}
use Rattle.session.proofs.serve.serve.Goals as goal

-- a recover ignores the budget
pub returns-in_default : goal.returns-in_default
unfolding serve
returns-in_default c = rw c.in_default.is c.recover.ensures

pub returns : goal.returns
returns c = rw (c.in-Call.is, c.next.ensures) (step_served _ _ _ _ _ c.step-answer.ensures c.outcome_line-at.ensures)
