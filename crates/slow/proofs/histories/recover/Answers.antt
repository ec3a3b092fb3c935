-- `histories::recover` meets its contract.
use Rattle.slow.proofs.Changes.{shortens}
use Rattle.slow.proofs.histories.recover.Goals as goal

pub returns : goal.returns
returns c = shortens c.args.histories
