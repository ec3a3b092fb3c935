use Rattle.std.proofs.Common.{arith}
use Rattle.report.proofs.Printing.{whole_text}
use Rattle.session.proofs.Opening.{drill_played}
use Rattle.session.proofs.drill.Goals as goal

pub returns : goal.returns
returns c =
    whole_text (drill_played _ c.fill.ensures c.play-at.ensures c.changed.ensures)
    (omega (arith, c.well_formed))
