use Rattle.report.proofs.Appending.{◌then◌}
use Rattle.report.proofs.told.Goals as goal

pub returns : goal.returns
returns c = c.bytes-next.ensures then c.value.ensures
