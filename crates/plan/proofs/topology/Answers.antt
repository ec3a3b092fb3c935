use Rattle.std.proofs.Common.{arith}
use Rattle.plan.proofs.Plans.{whole}
use Rattle.plan.proofs.topology.Goals as goal

pub bounds-bytes-0 : goal.bounds-bytes-0
bounds-bytes-0 c = omega (arith, whole c.args.bytes.now c.requires)

pub bounds-bytes-1 : goal.bounds-bytes-1
bounds-bytes-1 c = omega (arith, whole c.args.bytes.now c.requires)
