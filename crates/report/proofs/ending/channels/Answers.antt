use Rattle.std.proofs.Common.{rules}
use Rattle.report.proofs.Endings.{one_channel}
use Rattle.report.proofs.ending.channels.Goals as goal

pub returns : goal.returns
returns c =
    let a = c.args in
    c.each.ensures _ _ (λ i l b d k s w. one_channel a.places.now a.lengths.now a.n i (search rules) l)
