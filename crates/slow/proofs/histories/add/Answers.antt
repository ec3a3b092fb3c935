-- `histories::add` meets its contract.
use Rattle.std.proofs.Common.{arith}
use Rattle.slow.proofs.Entering.{adds}
use Rattle.slow.proofs.histories.add.Goals as goal

pub returns : goal.returns
returns c =
    let row = c.args.histories.rows c.args.p c.requires.0 in
    adds c.args.histories c.args.p c.args.i (omega arith) (omega arith) (omega (arith, row))
