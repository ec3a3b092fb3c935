use Rattle.report.proofs.Appending.{◌then◌}
use Rattle.report.proofs.hex.plan_line.Goals as goal

pub returns : goal.returns
returns c = c.hex_bytes-next.ensures then c.bytes.ensures
