-- `histories::forget` meets its contract.
use Rattle.slow.proofs.Changes.{forgets}
use Rattle.slow.proofs.histories.forget.Goals as goal

pub returns : goal.returns
returns c = forgets c.args.histories
