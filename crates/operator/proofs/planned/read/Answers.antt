use Rattle.std.proofs.Common.{rules}
use Rattle.operator.proofs.Planning.{planned}
use Rattle.operator.proofs.planned.read.Goals as goal

pub returns : goal.returns
returns c = planned _ c.read.result _ c.read.ensures (search rules)
