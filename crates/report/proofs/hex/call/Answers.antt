use Rattle.report.proofs.Appending.{◌then◌}
use Rattle.report.proofs.hex.call.Goals as goal

pub returns : goal.returns
returns c = c.hex_bytes-shown.ensures then c.bytes-next.ensures then c.decimal.ensures
