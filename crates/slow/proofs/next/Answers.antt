use Rattle.std.proofs.Common.{length}
use Rattle.model.specs.CallList.{call_at}
use Rattle.slow.proofs.AsRun.{next_says}
use Rattle.slow.proofs.next.Goals as goal

pub returns : goal.returns
returns c =
    let a = c.args in
    next_says a.topology c.requires.accepted (call_at a.calls.now) (length a.answers.now) _ _ _
    c.after-s.ensures c.call.ensures c.answer.ensures
