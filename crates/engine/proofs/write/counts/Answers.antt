-- `engine::write::counts`: both arrays are seen with one of their places written.
use Rattle.std.proofs.Common.{arith}
use Rattle.model.specs.State.{view_counts}
use Rattle.model.proofs.laws.Functions.{seen_set}
use Rattle.engine.proofs.Turning.{both_counts}
use Rattle.engine.proofs.write.counts.Goals as goal

pub returns-else-back : goal.returns-else-back
unfolding view_counts
returns-else-back c =
    let k = c.args.counts.now in
    let l = c.args.at in
    let n = c.args.new in
    rw c.if-back.false
    (both_counts (seen_set (λ v. v) k.messages l.process n.in_messages 0 (omega arith))
    (seen_set (λ v. v) k.channels l.channel n.in_channel 0 (omega arith)))
