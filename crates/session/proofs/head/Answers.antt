use Rattle.std.proofs.Common.{arith}
use Rattle.model.specs.Program.{head}
use Rattle.report.specs.Text.{head_text}
use Rattle.report.proofs.Printing.{whole_text}
use Rattle.session.proofs.head.Goals as goal

pub returns : goal.returns
unfolding head head_text
returns c = whole_text c.play.ensures.text (omega (arith, c.well_formed))
