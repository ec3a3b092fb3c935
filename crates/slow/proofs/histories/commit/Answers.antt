-- `histories::commit` meets its contract.
use Rattle.slow.proofs.Changes.{finishes}
use Rattle.slow.proofs.histories.commit.Goals as goal

pub returns : goal.returns
returns c = finishes c.args.histories _ c.line_of-histories.ensures
