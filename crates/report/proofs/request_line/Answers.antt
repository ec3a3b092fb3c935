use Rattle.std.proofs.Common.{append_assoc, [], ◌∷◌}
use Rattle.report.specs.Text.{chars, values}
use Rattle.report.proofs.Appending.{◌then◌}
use Rattle.report.proofs.request_line.Goals as goal

pub returns : goal.returns
returns g c =
    λ text writes.
    rw (append_assoc _ (values (c.args.made ∷ [])) (chars "\n"))
    (c.decimal-counted.ensures
    then c.bytes-opened.ensures
    then writes _ _ _ _ c.said-told.ensures
    then c.named.ensures)
