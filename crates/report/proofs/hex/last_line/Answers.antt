use Rattle.report.proofs.Appending.{◌then◌}
use Rattle.report.proofs.hex.last_line.Goals as goal

pub returns : goal.returns
returns c = c.call-shown.ensures then (c.bytes-next.ensures then c.refused_line.ensures)
