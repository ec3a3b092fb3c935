use Rattle.std.proofs.Common.{rules}
use Rattle.report.specs.TextBytes.{cell_bytes}
use Rattle.report.specs.Changed.{changed_line, changed_text}
use Rattle.report.proofs.cells.changed.Goals as goal

pub returns : goal.returns
unfolding changed_text
returns c = c.each.ensures cell_bytes (changed_line c.args.store.now) (λ i l b a k s w. search rules)
