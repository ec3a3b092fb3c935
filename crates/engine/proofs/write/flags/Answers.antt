-- `engine::write::flags`: each of the four arrays is seen with one of its places written.
use Rattle.std.proofs.Common.{false, arith}
use Rattle.model.specs.State.{view_progress}
use Rattle.model.proofs.laws.Functions.{seen_set}
use Rattle.engine.proofs.Turning.{same_flags}
use Rattle.engine.proofs.write.flags.Goals as goal

pub returns-else-back : goal.returns-else-back
unfolding view_progress
returns-else-back c =
    let f = c.args.flags.now in
    let l = c.args.at in
    let n = c.args.new in
    rw c.if-back.false
    (same_flags (seen_set (λ v. v) f.logical l.process n.logical false (omega arith))
    (seen_set (λ v. v) f.saved l.process n.saved false (omega arith))
    (seen_set (λ v. v) f.closed l.channel n.closed false (omega arith))
    (seen_set (λ v. v) f.sent l.channel n.sent false (omega arith)))
