use Rattle.model.specs.State.{view}
use Rattle.report.proofs.Appending.{◌then◌}
use Rattle.report.proofs.ending.print.Goals as goal

pub returns : goal.returns
unfolding view
returns c = c.processes-next.ensures then c.channels.ensures
