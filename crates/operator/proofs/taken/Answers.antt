use Rattle.std.proofs.Common.{arith, length-take}
use Rattle.operator.proofs.taken.Goals as goal

pub returns-clause-few : goal.returns-clause-few
returns-clause-few c = rw (c.taken.ensures, length-take) (omega arith)
