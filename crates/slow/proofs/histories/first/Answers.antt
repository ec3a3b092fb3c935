-- `histories::first` meets its contract.
use Rattle.slow.proofs.Changes.{starts}
use Rattle.slow.proofs.histories.first.Goals as goal

pub returns : goal.returns
returns c = starts
