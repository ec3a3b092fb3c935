use Rattle.session.proofs.Serving.{recover_served, recover_refused}
use Rattle.session.proofs.serve.recover.Goals as goal

pub returns-in-Ok : goal.returns-in-Ok
returns-in-Ok c = rw c.next.ensures (recover_served _ _ _ _ c.in-Ok.ensures c.recover_line-at.ensures)

pub returns-in-Err : goal.returns-in-Err
returns-in-Err c = rw c.next-in-Err.ensures (recover_refused _ _ _ _ c.in-Err.ensures c.outcome_line-at.ensures)
