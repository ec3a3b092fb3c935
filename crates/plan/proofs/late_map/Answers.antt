-- The map's two bytes are in the plan.
use Rattle.std.proofs.Common.{arith}
use Rattle.model.specs.Program.{map_start}
use Rattle.plan.proofs.Plans.{whole}
use Rattle.plan.proofs.late_map.Goals as goal

pub bounds-bytes-at : goal.bounds-bytes-at
unfolding map_start
bounds-bytes-at c = omega (arith, whole c.args.bytes.now c.requires)

pub bounds-bytes-at-2 : goal.bounds-bytes-at-2
unfolding map_start
bounds-bytes-at-2 c = omega (arith, whole c.args.bytes.now c.requires)
