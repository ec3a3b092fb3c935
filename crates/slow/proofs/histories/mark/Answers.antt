-- `histories::mark` meets its contract.
use Rattle.std.proofs.Common.{refl, arith}
use Rattle.slow.proofs.Changes.{marks_it}
use Rattle.slow.proofs.histories.mark.Goals as goal

pub returns : goal.returns
returns c = (marks_it c.args.histories c.args.p (omega arith), refl)
