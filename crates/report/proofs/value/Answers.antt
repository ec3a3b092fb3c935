use Rattle.report.proofs.Appending.{◌then◌}
use Rattle.report.proofs.Texts.{values_one}
use Rattle.report.proofs.value.Goals as goal

pub returns : goal.returns
returns c = rw values_one (c.bytes-next.ensures then c.decimal.ensures)
