use Rattle.report.proofs.Appending.{◌then◌}
use Rattle.report.proofs.hex.sent_line.Goals as goal

pub returns : goal.returns
returns c = c.call-next.ensures then c.named.ensures
